-- Setting constants keeps an event under way.
use Rattle.std.proofs.Common.{◌≡◌, ℕ, suc, ◌+◌, ◌<◌, ◌≤◌, List, [], ◌∷◌, ◌++◌, length, get_or, Option, Some, None, All, refl, sym, ◌∙◌, ap, subst, arith, inl, inr, Contains, append-nil}
use Rattle.std.specs.Prelude.{fold}
use Rattle.std.proofs.lemmas.List.{length_push, map-append}
use Rattle.std.proofs.lemmas.List.Elements.{Contains-append_left, Contains-append_right}
use Rattle.std.proofs.lemmas.Bool.{cases_eq}
use Rattle.et_base.specs.declared.value.Value.{Value}
use Rattle.et_base.specs.declared.value.Value.TheVariants.{Unset, Int, Long, Ref}
use Rattle.et_base.proofs.Lists.{Contains-none, Contains-here, Contains-cons}
use Rattle.et_heap.specs.Objects.{IsHeld, new_object}
use Rattle.et_heap.specs.Refs.{refs_of_value}
use Rattle.et_heap.proofs.HeapLists.{held_within}
use Rattle.et_state.specs.declared.class_state.ClassState.{ClassState}
use Rattle.et_state.specs.declared.class_state.ClassState.TheVariants.{Untouched, Begun, Done, Failed}
use Rattle.et_state.specs.State.{GuestState, Kept}
use Rattle.et_state.specs.Interned.{interned_objects}
use Rattle.et_state.specs.Words.{static_at, with_static, with_string, class_state_at}
use Rattle.et_state.specs.Roots.{roots_of}
use Rattle.et_state.specs.Moves.{WasThere, IsUnderWay}
use Rattle.et_state.specs.Sound.{IsSound}
use Rattle.et_state.proofs.Places.{guest_static, guest_interned, leads-new, string_root}
use Rattle.et_state.proofs.UnderWay.{law_guest, law_make, start}
use Rattle.et_state.proofs.Steps.{newest_held}
use Rattle.et_program.specs.Entries.{Linked, class_at, field_at}
use Rattle.et_program.specs.declared.info.FieldInfo.{FieldInfo}
use Rattle.et_event.specs.Kinds.{narrowed}
use Rattle.et_event.specs.Moments.{Moment, Doing, static_written, later}
use Rattle.et_event.specs.Sites.{LoadedConstant, AnInt, ALong, AString, constant_at, pool_of_class}
use Rattle.et_event.specs.Sound.{IsSoundFor}
use Rattle.et_event.specs.Strings.{interned, string_object}
use Rattle.et_event.specs.Initialization.{state_of, with_state, constant_set, field_set, constants_set, class_done, quietly_done}
use Rattle.et_event.specs.InitializationOrder.{IsStaticOf, HasConstants, IsInOrder}
use Rattle.et_initialize.specs.Under.{IsInitializing, HasMadeStrings}
use Rattle.et_initialize.proofs.Strings.{by_interned, object_listed}
use Rattle.et_initialize.proofs.Setting.{written_state, follows_field, slot_class, apart_slots, unset_marked, done_step, ready_done, ready_order, threads_order, monitors_order}

nothing_more : (s k : Kept) (lost l : List ℕ) → l ≡ [] → IsUnderWay s k (lost ++ l) → IsUnderWay s k lost
nothing_more s k lost l e w = subst (λ (os : List ℕ). IsUnderWay s k os) (append-nil lost) (subst (λ (os : List ℕ). IsUnderWay s k (lost ++ os)) e w)

-- THE FIRST STATE of an event
pub made_none : (s : Kept) → IsSound s → HasMadeStrings s (later s) []
made_none s sound = record { way = start s sound; roots = λ o c. inl c; made = λ o low high. absurd (omega arith); grown = omega arith }

pub ready_first : (p : Linked) (s : Kept) → IsSoundFor p s → IsInitializing p (later s)
ready_first p s sound = record {
  classes = sound.classes.0;
  statics = sound.statics.0;
  untouched = λ i lt un. (sound.statics.1 i lt).untouched un;
  strings = λ o c. held_within s.heap o (sound.held.roots o (string_root s.guest o c));
}

-- A STATIC FIELD that holds nothing gets a value, which refers to nothing but the string of a constant
pub made_static : (s k : Kept) (lost : List ℕ) (i : ℕ) (v : Value) → i < length k.guest.statics → static_at k.guest i ≡ Unset → ((o : ℕ) → Contains (refs_of_value v) o → Contains (interned_objects k.guest.interned) o)
    → HasMadeStrings s k lost → HasMadeStrings s (record { heap = k.heap; guest = with_static k.guest i v }) lost
made_static s k lost i v lt unset string h =
    let nothing : refs_of_value (static_at k.guest i) ≡ [] = ap refs_of_value unset in
    let none : (R : ℕ → Type 0) (o : ℕ) → Contains (refs_of_value (static_at k.guest i)) o → R o = λ R o c. absurd (Contains-none o (subst (λ (os : List ℕ). Contains os o) nothing c)) in
    let held : (o : ℕ) → Contains (refs_of_value v) o → IsHeld k.heap o = λ o c. h.way.sound.roots o (string_root k.guest o (string o c)) in
    let old : (o : ℕ) → Contains (refs_of_value v) o → Contains (roots_of k.guest) o = λ o c. string_root k.guest o (string o c) in
    let moves = guest_static (IsHeld k.heap) (WasThere s k) k.guest i v lt held (none (WasThere s k)) in
    let stay = guest_static (λ o. Contains (roots_of k.guest) o) (WasThere s k) k.guest i v lt old (none (WasThere s k)) in
    record {
      way = nothing_more s (record { heap = k.heap; guest = with_static k.guest i v }) lost (refs_of_value (static_at k.guest i)) nothing (law_guest s k lost (with_static k.guest i v) (refs_of_value (static_at k.guest i)) h.way moves);
      roots = λ o c. elim (stay.on o c) [ inl x ↦ h.roots o x | inr x ↦ h.roots o x ];
      made = h.made;
      grown = h.grown;
    }

-- A STRING is made
pub made_string : (s k : Kept) (lost : List ℕ) (bytes : List ℕ) (class slots : ℕ) → HasMadeStrings s k lost
    → HasMadeStrings s (record { heap = k.heap ++ Some (new_object class 0 slots) ∷ []; guest = with_string k.guest bytes (length k.heap) }) lost
made_string s k lost bytes class slots h =
    let n : ℕ = length k.heap in
    let x : Kept = record { heap = k.heap ++ Some (new_object class 0 slots) ∷ []; guest = k.guest } in
    let g : GuestState = with_string k.guest bytes n in
    let w : IsUnderWay s x lost = law_make s k lost (new_object class 0 slots) h.way (leads-new class 0 slots) refl in
    let moves = guest_interned (IsHeld x.heap) (WasThere s x) k.guest bytes n (newest_held k.heap (new_object class 0 slots)) in
    let stay = guest_interned (λ o. length s.heap ≤ o) (WasThere s x) k.guest bytes n h.grown in
    let long : length x.heap ≡ n + 1 = length_push k.heap (Some (new_object class 0 slots)) in
    let grown = h.grown in
    let last : interned_objects g.interned ≡ interned_objects k.guest.interned ++ n ∷ [] = map-append (λ p. p.1) k.guest.interned ((bytes, n) ∷ []) in
    record {
      way = nothing_more s (record { heap = x.heap; guest = g }) lost [] refl (law_guest s x lost g [] w moves);
      roots = λ o c. elim (stay.on o c) [ inl y ↦ h.roots o y | inr y ↦ inr y ];
      made = λ o low high. subst (λ (os : List ℕ). Contains os o) (sym last) (elim (cases_eq o n) [
        | inl e ↦ Contains-append_right (interned_objects k.guest.interned) (n ∷ []) o (subst (λ (j : ℕ). Contains (n ∷ []) j) (sym e) (Contains-here n []))
        | inr ne ↦ Contains-append_left (interned_objects k.guest.interned) (n ∷ []) o (h.made o low (below o n (length x.heap) high long ne))
      ]);
      grown = omega (arith, long);
    }
  where
    below : (o m l : ℕ) → o < l → l ≡ m + 1 → (o ≡ m → ⊥) → o < m
    below o m l lt e ne = omega arith

made_interned : (e : Moment) (s : Kept) (lost : List ℕ) (bytes : List ℕ) (d : Doing) → HasMadeStrings s d.state lost → HasMadeStrings s (interned e bytes d).state lost
made_interned e s lost bytes d h =
    by_interned (λ (x : Doing). HasMadeStrings s x.state lost) e bytes d (λ none. made_string s d.state lost bytes _ _ h) (λ o some. h)

-- .. and stands in a static field
made_written : (e : Moment) (s : Kept) (lost : List ℕ) (i : ℕ) (v : Value) (d : Doing) → i < length d.state.guest.statics → static_at d.state.guest i ≡ Unset → ((o : ℕ) → Contains (refs_of_value v) o → Contains (interned_objects d.state.guest.interned) o)
    → HasMadeStrings s d.state lost → HasMadeStrings s (static_written e i v d).state lost
made_written e s lost i v d lt unset string h =
    subst (λ (k : Kept). HasMadeStrings s k lost) (sym (written_state e i v d)) (made_static s d.state lost i v lt unset string h)

pub same_statics : (e : Moment) (bytes : List ℕ) (d : Doing) → (interned e bytes d).state.guest.statics ≡ d.state.guest.statics
same_statics e bytes d = by_interned (λ (x : Doing). x.state.guest.statics ≡ d.state.guest.statics) e bytes d (λ none. refl) (λ o some. refl)

pub made_constant : (e : Moment) (s : Kept) (lost : List ℕ) (f : FieldInfo) (k : Option LoadedConstant) (d : Doing) → f.slot < length d.state.guest.statics → static_at d.state.guest f.slot ≡ Unset
    → HasMadeStrings s d.state lost → HasMadeStrings s (constant_set e f k d).state lost
made_constant e s lost f None d lt unset h = h
made_constant e s lost f (Some (AnInt n)) d lt unset h = made_written e s lost f.slot (narrowed f.descriptor (Int n)) d lt unset (λ o c. absurd (Contains-none o c)) h
made_constant e s lost f (Some (ALong n)) d lt unset h = made_written e s lost f.slot (Long n) d lt unset (λ o c. absurd (Contains-none o c)) h
made_constant e s lost f (Some (AString bytes)) d lt unset h =
    let x = interned e bytes d in
    let same = same_statics e bytes d in
    made_written e s lost f.slot (Ref (string_object bytes x)) x (subst (λ (vs : List Value). f.slot < length vs) (sym same) lt) (ap (λ (vs : List Value). get_or vs f.slot Unset) same ∙ unset)
    (λ o c. elim (Contains-cons (string_object bytes x) [] o c) [
      | inl is ↦ subst (λ (j : ℕ). Contains (interned_objects x.state.guest.interned) j) is (object_listed e bytes d)
      | inr y ↦ absurd (Contains-none o y)
    ]) (made_interned e s lost bytes d h)

pub made_field : (e : Moment) (s : Kept) (lost : List ℕ) (d : Doing) (f : ℕ) → (field_at e.program f).slot < length d.state.guest.statics → static_at d.state.guest (field_at e.program f).slot ≡ Unset
    → HasMadeStrings s d.state lost → HasMadeStrings s (field_set e d f).state lost
made_field e s lost d f lt unset h = made_constant e s lost (field_at e.program f) (constant_at (pool_of_class e.program (field_at e.program f).class) (field_at e.program f).constant) d lt unset h

abbrev Once : List ℕ → Type 0
Once fs = (i j : ℕ) → i < j → j < length fs → get_or fs i 0 < get_or fs j 0

abbrev AreUnset : Linked → List ℕ → Doing → Type 0
AreUnset p fs d = (j : ℕ) → j < length fs → static_at d.state.guest (field_at p (get_or fs j 0)).slot ≡ Unset

pub made_fields : (e : Moment) (c : ℕ) (s : Kept) (lost : List ℕ) (fs : List ℕ) (d : Doing) → All (IsStaticOf e.program c) fs → Once fs → length d.state.guest.statics ≡ length e.program.statics → AreUnset e.program fs d
    → HasMadeStrings s d.state lost → HasMadeStrings s (fold (field_set e) d fs).state lost
made_fields e c s lost [] d all once long unset h = h
made_fields e c s lost (f ∷ fs) d all once long unset h =
    let x = field_set e d f in
    let here = all 0 0 (omega arith) in
    let after = follows_field e d f in
    made_fields e c s lost fs x (λ i z lt. all (suc i) z (omega arith)) (λ i j lt within. once (suc i) (suc j) (omega arith) (omega arith)) (after.statics ∙ long)
    (λ j lt. after.others (field_at e.program (get_or fs j 0)).slot (apart_slots e.program c (f ∷ fs) 0 (suc j) all once (omega arith) (omega arith)) ∙ unset (suc j) (omega arith))
    (made_field e s lost d f (subst (λ (n : ℕ). (field_at e.program f).slot < n) (sym long) here.slot) (unset 0 (omega arith)) h)

-- the constants of a class
pub made_constants : (e : Moment) (c : ℕ) (x : ClassState) (s : Kept) (lost : List ℕ) (d : Doing) → c < length e.program.classes → HasConstants e.program c → IsInitializing e.program d.state → class_state_at d.state.guest c ≡ Untouched
    → HasMadeStrings s d.state lost → HasMadeStrings s (constants_set e c (with_state c x d)).state lost
made_constants e c x s lost d lt has ready un h =
    let fs = (class_at e.program c).info.constants in
    made_fields e c s lost fs (with_state c x d) has.fields has.once ready.statics
    (λ j within. let here = has.fields j 0 within in unset_marked e.program c x d ready un (field_at e.program (get_or fs j 0)).slot here.slot (slot_class e.program c (get_or fs j 0) (field_at e.program (get_or fs j 0)).slot here refl))
    (record { way = record { first = h.way.first; draft = h.way.draft; sound = record { room = h.way.sound.room; none = h.way.sound.none; roots = h.way.sound.roots; slots = h.way.sound.slots; referents = h.way.sound.referents } }; roots = h.roots; made = h.made; grown = h.grown })

pub made_done : (e : Moment) (c : ℕ) (x : ClassState) (s : Kept) (lost : List ℕ) (d : Doing) → c < length e.program.classes → HasConstants e.program c → IsInitializing e.program d.state → class_state_at d.state.guest c ≡ x
    → HasMadeStrings s d.state lost → HasMadeStrings s (class_done e c x d).state lost
made_done e c Untouched s lost d lt has ready un h = made_constants e c Done s lost d lt has ready un h
made_done e c (Begun t) s lost d lt has ready un h = h
made_done e c Done s lost d lt has ready un h = h
made_done e c Failed s lost d lt has ready un h = h

pub made_order : (e : Moment) (s : Kept) (lost : List ℕ) (ks : List ℕ) (d : Doing) → IsInOrder e.program → All (λ k. k < length e.program.classes) ks → IsInitializing e.program d.state
    → HasMadeStrings s d.state lost → HasMadeStrings s (fold (done_step e) d ks).state lost
made_order e s lost [] d has all ready h = h
made_order e s lost (k ∷ ks) d has all ready h =
    let lt = all 0 0 (omega arith) in
    made_order e s lost ks (done_step e d k) has (λ i z within. all (suc i) z (omega arith)) (ready_done e k (state_of d k) d lt (has.constants k lt) ready)
    (made_done e k (state_of d k) s lost d lt (has.constants k lt) ready refl h)

-- QUIET CLASSES
pub quietly_made : (e : Moment) (c : ℕ) (d : Doing) (s : Kept) (lost : List ℕ) → IsInOrder e.program → c < length e.program.classes → IsInitializing e.program d.state → HasMadeStrings s d.state lost → HasMadeStrings s (quietly_done e c d).state lost
quietly_made e c d s lost has lt ready h = made_order e s lost (class_at e.program c).init_order d has (has.within c lt) ready h

pub quietly_ready : (e : Moment) (c : ℕ) (d : Doing) → IsInOrder e.program → c < length e.program.classes → IsInitializing e.program d.state → IsInitializing e.program (quietly_done e c d).state
quietly_ready e c d has lt ready = ready_order e (class_at e.program c).init_order d has (has.within c lt) ready

pub quietly_threads : (e : Moment) (c : ℕ) (d : Doing) → (quietly_done e c d).state.guest.threads ≡ d.state.guest.threads
quietly_threads e c d = threads_order e (class_at e.program c).init_order d

pub quietly_monitors : (e : Moment) (c : ℕ) (d : Doing) → (quietly_done e c d).state.guest.class_monitors ≡ d.state.guest.class_monitors
quietly_monitors e c d = monitors_order e (class_at e.program c).init_order d
