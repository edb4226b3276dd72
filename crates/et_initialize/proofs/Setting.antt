-- What setting constants leaves as it was.
use Rattle.std.proofs.Common.{◌≡◌, ℕ, suc, ◌+◌, ◌-◌, ◌<◌, ◌≤◌, leb, Bool, true, List, [], ◌∷◌, ◌++◌, length, get_or, take, drop, Option, Some, None, All, refl, sym, ◌∙◌, ap, subst, arith, Contains, append-nil, append_assoc, inl, inr}
use Rattle.std.specs.Prelude.{fold, ◌&&◌, slice_index_or}
use Rattle.std.specs.List.{sum_by}
use Rattle.std.proofs.lemmas.List.{length-set, length_push, length-append, get_or-set_same, get_or-set_other, get_or-take, length-take-le, take-append-drop}
use Rattle.std.proofs.lemmas.List.Sums.{fold-append, fold_more, sum_by-append}
use Rattle.std.proofs.lemmas.Bool.{and_parts, leb-true, le-leb}
use Rattle.std.proofs.lemmas.List.Elements.{Contains-append_cases}
use Rattle.std.proofs.lemmas.List.{map-append}
use Rattle.et_base.proofs.Lists.{Contains-none, Contains-cons}
use Rattle.et_base.specs.declared.value.Value.{Value}
use Rattle.et_base.specs.declared.value.Value.TheVariants.{Unset, Int, Long, Ref}
use Rattle.et_heap.specs.Objects.{Objects, slots_in, most_objects, most_slots}
use Rattle.et_state.specs.declared.class_state.ClassState.{ClassState}
use Rattle.et_state.specs.declared.class_state.ClassState.TheVariants.{Untouched, Begun, Done, Failed}
use Rattle.et_state.specs.State.{GuestState, Kept}
use Rattle.et_state.specs.Interned.{interned_objects}
use Rattle.et_state.specs.Words.{static_at, with_static, class_state_at}
use Rattle.et_program.specs.Entries.{Linked, class_at, field_at}
use Rattle.et_program.specs.declared.info.FieldInfo.{FieldInfo}
use Rattle.et_event.specs.Kinds.{narrowed}
use Rattle.et_event.specs.Moments.{Moment, Doing, fits_heap, static_written, doing_with_guest}
use Rattle.et_event.specs.Sites.{LoadedConstant, AnInt, ALong, AString, constant_at, pool_of_class}
use Rattle.et_event.specs.Strings.{interned, string_object}
use Rattle.et_event.specs.Initialization.{state_of, with_state, constant_set, field_set, constants_set, class_done}
use Rattle.et_event.specs.InitializationOrder.{IsStaticOf, HasConstants, IsInOrder}
use Rattle.et_initialize.specs.Under.{IsInitializing, class_of_slot}
use Rattle.et_initialize.proofs.Strings.{making, by_interned}
use Rattle.et_event.proofs.Values.{updated_state}

pub record Grown (a b : Objects) : Type 0 where
  pub rest : Objects
  pub is : b ≡ a ++ rest

pub grown_none : (a : Objects) → Grown a a
grown_none a = record { rest = []; is = sym (append-nil a) }

pub grown_then : (a b c : Objects) → Grown a b → Grown b c → Grown a c
grown_then a b c g h = record { rest = g.rest ++ h.rest; is = h.is ∙ (ap (λ (x : Objects). x ++ h.rest) g.is ∙ append_assoc a g.rest h.rest) }

-- what fits with more, fits
pub fits_grown : (a b : Objects) → Grown a b → fits_heap b ≡ true → fits_heap a ≡ true
fits_grown a b g h =
    let p = and_parts _ _ h in
    let objects : length b - 1 ≤ most_objects = leb-true _ _ p.0 in
    let slots : sum_by slots_in b ≤ most_slots = leb-true _ _ p.1 in
    let long : length b ≡ length a + length g.rest = ap (λ (x : Objects). length x) g.is ∙ length-append a g.rest in
    let more : sum_by slots_in b ≡ sum_by slots_in a + sum_by slots_in g.rest = ap (λ (x : Objects). sum_by slots_in x) g.is ∙ sum_by-append slots_in a g.rest in
    let few : length a - 1 ≤ most_objects = omega arith in
    let small : sum_by slots_in a ≤ most_slots = omega arith in
    ap (λ (x : Bool). x && leb (sum_by slots_in a) most_slots) (le-leb _ _ few) ∙ le-leb _ _ small

-- THE STATES BEFORE AND AFTER: at most the static slots of W were written
pub record Follows (W : ℕ → Type 0) (d d' : Doing) : Type 0 where
  pub statics : length d'.state.guest.statics ≡ length d.state.guest.statics
  pub others : (j : ℕ) → (W j → ⊥) → static_at d'.state.guest j ≡ static_at d.state.guest j
  pub classes : d'.state.guest.classes ≡ d.state.guest.classes
  pub threads : d'.state.guest.threads ≡ d.state.guest.threads
  pub monitors : d'.state.guest.class_monitors ≡ d.state.guest.class_monitors
  pub heap : Grown d.state.heap d'.state.heap
  pub strings : ((o : ℕ) → Contains (interned_objects d.state.guest.interned) o → o < length d.state.heap) → (o : ℕ) → Contains (interned_objects d'.state.guest.interned) o → o < length d'.state.heap

pub follows_none : (W : ℕ → Type 0) (d : Doing) → Follows W d d
follows_none W d = record { statics = refl; others = λ j n. refl; classes = refl; threads = refl; monitors = refl; heap = grown_none d.state.heap; strings = λ h. h }

pub follows_then : (W : ℕ → Type 0) (a b c : Doing) → Follows W a b → Follows W b c → Follows W a c
follows_then W a b c f g = record {
  statics = g.statics ∙ f.statics;
  others = λ j n. g.others j n ∙ f.others j n;
  classes = g.classes ∙ f.classes;
  threads = g.threads ∙ f.threads;
  monitors = g.monitors ∙ f.monitors;
  heap = grown_then a.state.heap b.state.heap c.state.heap f.heap g.heap;
  strings = λ h. g.strings (f.strings h);
}

pub follows_less : (V W : ℕ → Type 0) (a b : Doing) → ((j : ℕ) → V j → W j) → Follows V a b → Follows W a b
follows_less V W a b sub f = record { statics = f.statics; others = λ j n. f.others j (λ v. n (sub j v)); classes = f.classes; threads = f.threads; monitors = f.monitors; heap = f.heap; strings = f.strings }

-- a record changes no state
pub written_state : (e : Moment) (i : ℕ) (v : Value) (d : Doing) → (static_written e i v d).state ≡ (doing_with_guest (with_static d.state.guest i v) d).state
written_state e i v d = updated_state e 0 i (static_at d.state.guest i) v (doing_with_guest (with_static d.state.guest i v) d)

abbrev pub Slot : ℕ → ℕ → Type 0
Slot i j = j ≡ i

follows_state : (W : ℕ → Type 0) (a b c : Doing) → b.state ≡ c.state → Follows W a c → Follows W a b
follows_state W a b c e f = subst (λ (k : Kept). Follows W a (record { state = k; records = b.records })) (sym e) (record { statics = f.statics; others = f.others; classes = f.classes; threads = f.threads; monitors = f.monitors; heap = f.heap; strings = f.strings })

follows_written : (e : Moment) (i : ℕ) (v : Value) (d : Doing) → Follows (Slot i) d (static_written e i v d)
follows_written e i v d = follows_state (Slot i) d (static_written e i v d) (doing_with_guest (with_static d.state.guest i v) d) (written_state e i v d) (record {
  statics = length-set d.state.guest.statics i v;
  others = λ j n. get_or-set_other d.state.guest.statics i j v Unset n;
  classes = refl;
  threads = refl;
  monitors = refl;
  heap = grown_none d.state.heap;
  strings = λ h. h;
})

follows_making : (W : ℕ → Type 0) (e : Moment) (bytes : List ℕ) (d : Doing) → Follows W d (making e bytes d)
follows_making W e bytes d = record {
  statics = refl;
  others = λ j n. refl;
  classes = refl;
  threads = refl;
  monitors = refl;
  heap = record { rest = _; is = refl };
  strings = λ h o c.
      let long : length (making e bytes d).state.heap ≡ length d.state.heap + 1 = length_push d.state.heap _ in
      let last : interned_objects (d.state.guest.interned ++ (bytes, length d.state.heap) ∷ []) ≡ interned_objects d.state.guest.interned ++ length d.state.heap ∷ [] = map-append (λ p. p.1) d.state.guest.interned ((bytes, length d.state.heap) ∷ []) in
      elim (Contains-append_cases (interned_objects d.state.guest.interned) (length d.state.heap ∷ []) o (subst (λ (os : List ℕ). Contains os o) last c)) [
        | inl x ↦ let lt = h o x in omega (arith, long)
        | inr x ↦ elim (Contains-cons (length d.state.heap) [] o x) [ inl is ↦ omega (arith, long) | inr y ↦ absurd (Contains-none o y) ]
      ];
}

follows_interned : (W : ℕ → Type 0) (e : Moment) (bytes : List ℕ) (d : Doing) → Follows W d (interned e bytes d)
follows_interned W e bytes d = by_interned (λ (x : Doing). Follows W d x) e bytes d (λ none. follows_making W e bytes d) (λ o some. follows_none W d)

pub follows_constant : (e : Moment) (f : FieldInfo) (k : Option LoadedConstant) (d : Doing) → Follows (Slot f.slot) d (constant_set e f k d)
follows_constant e f None d = follows_none (Slot f.slot) d
follows_constant e f (Some (AnInt n)) d = follows_written e f.slot (narrowed f.descriptor (Int n)) d
follows_constant e f (Some (ALong n)) d = follows_written e f.slot (Long n) d
follows_constant e f (Some (AString bytes)) d =
    let x = interned e bytes d in
    follows_then (Slot f.slot) d x (constant_set e f (Some (AString bytes)) d) (follows_interned (Slot f.slot) e bytes d) (follows_written e f.slot (Ref (string_object bytes x)) x)

pub follows_field : (e : Moment) (d : Doing) (f : ℕ) → Follows (Slot (field_at e.program f).slot) d (field_set e d f)
follows_field e d f = follows_constant e (field_at e.program f) (constant_at (pool_of_class e.program (field_at e.program f).class) (field_at e.program f).constant) d

-- OF A CLASS
abbrev pub OfClass : Linked → ℕ → ℕ → Type 0
OfClass p c j = class_of_slot p j ≡ c

pub slot_class : (p : Linked) (c f j : ℕ) → IsStaticOf p c f → Slot (field_at p f).slot j → OfClass p c j
slot_class p c f j s e = ap (λ (i : ℕ). class_of_slot p i) e ∙ (ap (λ (g : ℕ). (field_at p g).class) s.stands ∙ s.class)

-- a slot of one of these fields
pub record Among (p : Linked) (fs : List ℕ) (j : ℕ) : Type 0 where
  pub place : ℕ
  pub within : place < length fs
  pub slot : j ≡ (field_at p (get_or fs place 0)).slot

among_more : (p : Linked) (f : ℕ) (fs : List ℕ) (j : ℕ) → Among p fs j → Among p (f ∷ fs) j
among_more p f fs j a = let lt = a.within in record { place = suc a.place; within = omega arith; slot = a.slot }

pub follows_each : (e : Moment) (fs : List ℕ) (d : Doing) → Follows (Among e.program fs) d (fold (field_set e) d fs)
follows_each e [] d = follows_none (Among e.program []) d
follows_each e (f ∷ fs) d =
    follows_then (Among e.program (f ∷ fs)) d (field_set e d f) (fold (field_set e) (field_set e d f) fs)
    (follows_less (Slot (field_at e.program f).slot) (Among e.program (f ∷ fs)) d (field_set e d f) (λ j s. record { place = 0; within = omega arith; slot = s }) (follows_field e d f))
    (follows_less (Among e.program fs) (Among e.program (f ∷ fs)) (field_set e d f) (fold (field_set e) (field_set e d f) fs) (λ j a. among_more e.program f fs j a) (follows_each e fs (field_set e d f)))

pub follows_fields : (e : Moment) (c : ℕ) (fs : List ℕ) (d : Doing) → All (IsStaticOf e.program c) fs → Follows (OfClass e.program c) d (fold (field_set e) d fs)
follows_fields e c fs d all =
    follows_less (Among e.program fs) (OfClass e.program c) d (fold (field_set e) d fs)
    (λ j a. slot_class e.program c (get_or fs a.place 0) j (all a.place 0 a.within) a.slot) (follows_each e fs d)

-- WHAT A CONSTANT OF A CLASS NEEDS, once those before it are set
pub record CanSet (p : Linked) (f : ℕ) (d : Doing) : Type 0 where
  pub slot : (field_at p f).slot < length d.state.guest.statics
  pub unset : static_at d.state.guest (field_at p f).slot ≡ Unset
  pub made : (o : ℕ) → Contains (interned_objects d.state.guest.interned) o → o < length d.state.heap

pub apart_slots : (p : Linked) (c : ℕ) (fs : List ℕ) (i k : ℕ) → All (IsStaticOf p c) fs → ((i j : ℕ) → i < j → j < length fs → get_or fs i 0 < get_or fs j 0) → i < k → k < length fs
    → (field_at p (get_or fs k 0)).slot ≡ (field_at p (get_or fs i 0)).slot → ⊥
apart_slots p c fs i k all once lt within same =
    let a = (all k 0 within).stands in
    let b = (all i 0 (omega arith)).stands in
    let equal : get_or fs k 0 ≡ get_or fs i 0 = sym a ∙ (ap (λ (j : ℕ). slice_index_or p.statics j 0) same ∙ b) in
    let less = once i k lt within in
    omega arith

-- the first k are set
abbrev pub after : Moment → Doing → List ℕ → ℕ → Doing
after e d fs k = fold (field_set e) d (take k fs)

pub can_set : (e : Moment) (c : ℕ) (d : Doing) (k : ℕ) → HasConstants e.program c → k < length (class_at e.program c).info.constants → IsInitializing e.program d.state
    → ((i : ℕ) → i < length e.program.statics → class_of_slot e.program i ≡ c → static_at d.state.guest i ≡ Unset)
    → CanSet e.program (get_or (class_at e.program c).info.constants k 0) (after e d (class_at e.program c).info.constants k)
can_set e c d k has lt ready unset =
    let fs = (class_at e.program c).info.constants in
    let f = follows_each e (take k fs) d in
    let here = has.fields k 0 lt in
    let before : length (take k fs) ≤ k = omega (arith, length-take-le k fs (omega arith)) in
    record {
      slot = subst (λ (n : ℕ). (field_at e.program (get_or fs k 0)).slot < n) (sym (f.statics ∙ ready.statics)) here.slot;
      unset = f.others (field_at e.program (get_or fs k 0)).slot (λ a.
          let few = a.within in
          let early : a.place < k = omega arith in
          apart_slots e.program c fs a.place k has.fields has.once early lt (a.slot ∙ ap (λ (g : ℕ). (field_at e.program g).slot) (get_or-take k fs a.place 0 early)))
          ∙ unset (field_at e.program (get_or fs k 0)).slot here.slot (slot_class e.program c (get_or fs k 0) (field_at e.program (get_or fs k 0)).slot here refl);
      made = f.strings ready.strings;
    }

pub fold_rest : {A B : Type 0} (f : B → A → B) (d : B) (xs : List A) (k : ℕ) → fold f (fold f d (take k xs)) (drop k xs) ≡ fold f d xs
fold_rest f d xs k = sym (fold-append f d (take k xs) (drop k xs)) ∙ ap (λ l. fold f d l) (take-append-drop k xs)

-- where all fit, one more fits
pub one_fits : (step : Doing → ℕ → Doing) → ((ks : List ℕ) (x : Doing) → Grown x.state.heap (fold step x ks).state.heap) → (d : Doing) (ks : List ℕ) (k : ℕ) → k < length ks
    → fits_heap (fold step d ks).state.heap ≡ true → fits_heap (step (fold step d (take k ks)) (get_or ks k 0)).state.heap ≡ true
one_fits step grown d ks k lt fit =
    let x = fold step d (take (k + 1) ks) in
    let one : x ≡ step (fold step d (take k ks)) (get_or ks k 0) = fold_more step d ks k 0 lt in
    let whole = ap (λ (y : Doing). fits_heap y.state.heap) (fold_rest step d ks (k + 1)) ∙ fit in
    ap (λ (y : Doing). fits_heap y.state.heap) (sym one) ∙ fits_grown x.state.heap (fold step x (drop (k + 1) ks)).state.heap (grown (drop (k + 1) ks) x) whole

-- THE STATE STAYS READY

pub state_changed : (d : Doing) (c k : ℕ) (x : ClassState) → (k ≡ c → ⊥) → class_state_at (with_state c x d).state.guest k ≡ class_state_at d.state.guest k
state_changed d c k x n = get_or-set_other d.state.guest.classes c k x Untouched n

pub state_set : (d : Doing) (c : ℕ) (x : ClassState) → c < length d.state.guest.classes → class_state_at (with_state c x d).state.guest c ≡ x
state_set d c x lt = get_or-set_same d.state.guest.classes c x Untouched lt

pub done_untouched : Done ≡ Untouched → ⊥
done_untouched e = cc

pub begun_untouched : (t : ℕ) → Begun t ≡ Untouched → ⊥
begun_untouched t e = cc

-- a class is marked
pub ready_marked : (p : Linked) (c : ℕ) (x : ClassState) (d : Doing) → c < length p.classes → (x ≡ Untouched → ⊥) → IsInitializing p d.state → IsInitializing p (with_state c x d).state
ready_marked p c x d lt apart r =
    let within : c < length d.state.guest.classes = omega (arith, r.classes) in
    record {
      classes = length-set d.state.guest.classes c x ∙ r.classes;
      statics = r.statics;
      untouched = λ i small un. r.untouched i small (sym (state_changed d c (class_of_slot p i) x (λ same.
          apart (sym (ap (λ (k : ℕ). class_state_at (with_state c x d).state.guest k) same ∙ state_set d c x within) ∙ un))) ∙ un);
      strings = r.strings;
    }

-- constants of a class that isn't untouched are set
pub ready_follows : (p : Linked) (c : ℕ) (d d' : Doing) → (class_state_at d.state.guest c ≡ Untouched → ⊥) → Follows (OfClass p c) d d' → IsInitializing p d.state → IsInitializing p d'.state
ready_follows p c d d' apart f r = record {
  classes = ap (λ (xs : List ClassState). length xs) f.classes ∙ r.classes;
  statics = f.statics ∙ r.statics;
  untouched = λ i small un.
      let was : class_state_at d.state.guest (class_of_slot p i) ≡ Untouched = sym (ap (λ (xs : List ClassState). get_or xs (class_of_slot p i) Untouched) f.classes) ∙ un in
      f.others i (λ same. apart (sym (ap (λ (k : ℕ). class_state_at d.state.guest k) same) ∙ was)) ∙ r.untouched i small was;
  strings = f.strings r.strings;
}

pub marked_apart : (d : Doing) (c : ℕ) (x : ClassState) → c < length d.state.guest.classes → (x ≡ Untouched → ⊥) → class_state_at (with_state c x d).state.guest c ≡ Untouched → ⊥
marked_apart d c x lt apart e = apart (sym (state_set d c x lt) ∙ e)

pub ready_constants : (e : Moment) (c : ℕ) (x : ClassState) (d : Doing) → c < length e.program.classes → HasConstants e.program c → (x ≡ Untouched → ⊥) → IsInitializing e.program d.state
    → IsInitializing e.program (constants_set e c (with_state c x d)).state
ready_constants e c x d lt has apart r =
    ready_follows e.program c (with_state c x d) (constants_set e c (with_state c x d)) (marked_apart d c x (omega (arith, r.classes)) apart)
    (follows_fields e c (class_at e.program c).info.constants (with_state c x d) has.fields) (ready_marked e.program c x d lt apart r)

pub ready_done : (e : Moment) (c : ℕ) (x : ClassState) (d : Doing) → c < length e.program.classes → HasConstants e.program c → IsInitializing e.program d.state → IsInitializing e.program (class_done e c x d).state
ready_done e c Untouched d lt has r = ready_constants e c Done d lt has done_untouched r
ready_done e c (Begun t) d lt has r = r
ready_done e c Done d lt has r = r
ready_done e c Failed d lt has r = r

-- the static fields of an untouched class hold nothing, also once it is marked
pub unset_marked : (p : Linked) (c : ℕ) (x : ClassState) (d : Doing) → IsInitializing p d.state → class_state_at d.state.guest c ≡ Untouched → (i : ℕ) → i < length p.statics → class_of_slot p i ≡ c → static_at (with_state c x d).state.guest i ≡ Unset
unset_marked p c x d r un i lt same = r.untouched i lt (ap (λ (k : ℕ). class_state_at d.state.guest k) same ∙ un)

-- WHAT IS MADE ONLY GROWS
pub grown_done : (e : Moment) (c : ℕ) (x : ClassState) (d : Doing) → Grown d.state.heap (class_done e c x d).state.heap
grown_done e c Untouched d = (follows_each e (class_at e.program c).info.constants (with_state c Done d)).heap
grown_done e c (Begun t) d = grown_none d.state.heap
grown_done e c Done d = grown_none d.state.heap
grown_done e c Failed d = grown_none d.state.heap

abbrev pub done_step : Moment → Doing → ℕ → Doing
done_step e x k = class_done e k (state_of x k) x

pub grown_order : (e : Moment) (ks : List ℕ) (d : Doing) → Grown d.state.heap (fold (done_step e) d ks).state.heap
grown_order e [] d = grown_none d.state.heap
grown_order e (k ∷ ks) d =
    grown_then d.state.heap (done_step e d k).state.heap (fold (done_step e) (done_step e d k) ks).state.heap
    (grown_done e k (state_of d k) d) (grown_order e ks (done_step e d k))

abbrev pub done_first : Moment → Doing → List ℕ → ℕ → Doing
done_first e d ks k = fold (done_step e) d (take k ks)

pub ready_order : (e : Moment) (ks : List ℕ) (d : Doing) → IsInOrder e.program → All (λ k. k < length e.program.classes) ks → IsInitializing e.program d.state → IsInitializing e.program (fold (done_step e) d ks).state
ready_order e [] d has all r = r
ready_order e (k ∷ ks) d has all r =
    let lt = all 0 0 (omega arith) in
    ready_order e ks (done_step e d k) has (λ i z within. all (suc i) z (omega arith)) (ready_done e k (state_of d k) d lt (has.constants k lt) r)

-- A PART OF THE GUEST STAYS that setting constants leaves as it was: the threads, and the monitors of classes
part_done : {A : Type 0} (part : GuestState → A) (e : Moment) → ((c : ℕ) (d : Doing) → part (constants_set e c (with_state c Done d)).state.guest ≡ part d.state.guest)
    → (c : ℕ) (x : ClassState) (d : Doing) → part (class_done e c x d).state.guest ≡ part d.state.guest
part_done part e stays c Untouched d = stays c d
part_done part e stays c (Begun t) d = refl
part_done part e stays c Done d = refl
part_done part e stays c Failed d = refl

part_order : {A : Type 0} (part : GuestState → A) (e : Moment) → ((c : ℕ) (d : Doing) → part (constants_set e c (with_state c Done d)).state.guest ≡ part d.state.guest)
    → (ks : List ℕ) (d : Doing) → part (fold (done_step e) d ks).state.guest ≡ part d.state.guest
part_order part e stays [] d = refl
part_order part e stays (k ∷ ks) d = part_order part e stays ks (done_step e d k) ∙ part_done part e stays k (state_of d k) d

pub threads_order : (e : Moment) (ks : List ℕ) (d : Doing) → (fold (done_step e) d ks).state.guest.threads ≡ d.state.guest.threads
threads_order e ks d = part_order (λ g. g.threads) e (λ c x. (follows_each e (class_at e.program c).info.constants (with_state c Done x)).threads) ks d

pub monitors_order : (e : Moment) (ks : List ℕ) (d : Doing) → (fold (done_step e) d ks).state.guest.class_monitors ≡ d.state.guest.class_monitors
monitors_order e ks d = part_order (λ g. g.class_monitors) e (λ c x. (follows_each e (class_at e.program c).info.constants (with_state c Done x)).monitors) ks d
