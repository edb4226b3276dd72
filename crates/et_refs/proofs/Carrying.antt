-- Once the class is initialized, the event that does an access is a legal step.
use Rattle.std.proofs.Common.{◌≡◌, ℕ, ◌+◌, ◌*◌, ◌<◌, true, false, List, [], ◌∷◌, ◌++◌, length, take, drop, Option, Some, refl, sym, ◌∙◌, ap, subst, arith, inl, inr, Contains, append_assoc}
use Rattle.std.proofs.lemmas.Bool.{cases_eq}
use Rattle.std.proofs.lemmas.List.{length_push}
use Rattle.std.proofs.lemmas.List.Elements.{Contains-append_left, Contains-append_right}
use Rattle.et_base.specs.declared.value.Value.{Value}
use Rattle.et_base.specs.declared.value.Value.TheVariants.{Unset, Int, Long, LongHigh, Null, Ref}
use Rattle.et_base.proofs.Lists.{Contains-none, Contains-here, Contains-one}
use Rattle.et_heap.specs.Objects.{ObjectState, IsHeld, new_object, has_room}
use Rattle.et_heap.specs.Refs.{refs_of_value, refs_of}
use Rattle.et_heap.proofs.HeapLists.{held_within}
use Rattle.et_state.specs.Threads.{FrameState}
use Rattle.et_state.specs.ThreadRoots.{frame_roots}
use Rattle.et_state.specs.State.{Kept, MachineState, kept_of}
use Rattle.et_state.specs.Words.{top, with_top, HasFrame, static_at, with_static, steps_top, with_new_object}
use Rattle.et_state.specs.Roots.{roots_of}
use Rattle.et_state.specs.Sound.{IsSound}
use Rattle.et_state.specs.Moves.{WasThere, IsOnWay, Led}
use Rattle.et_state.proofs.Places.{top_root, static_root, string_root}
use Rattle.et_state.proofs.Calls.{on_set_static, on_make}
use Rattle.et_state.proofs.Steps.{MayEnter, MayBeLost, did_on_way, root_there, new_there, newest_held, with_top_root}
use Rattle.et_program.specs.Entries.{Linked, class_at}
use Rattle.et_state.specs.declared.records.Record.{Record}
use Rattle.et_state.specs.declared.records.Record.TheVariants.{Alloc}
use Rattle.et_state.specs.declared.ends.EventEnd.TheVariants as endings
use Rattle.et_state.specs.Outcome.{Outcome}
use Rattle.et_event.specs.Answered.{EventAnswers}
use Rattle.et_event.specs.Checks.{entries_of}
use Rattle.et_event.specs.Heap.{leaving_values}
use Rattle.et_event.specs.Kinds.{or_zero}
use Rattle.et_event.specs.Moments.{Moment, moment, Doing, current_frame, fits_heap, updated}
use Rattle.et_event.specs.Sites.{Site}
use Rattle.et_event.specs.Sound.{is_of_kind}
use Rattle.et_event.specs.PoolOperands.Operand.{Operand}
use Rattle.et_event.proofs.Taking.{replaced}
use Rattle.et_event.proofs.Throwing.{ends_fit, ends_full}
use Rattle.et_refs.proofs.Leading.{moves_held, entries_refer}
use Rattle.et_refs.proofs.Reading.{read_refers}
use Rattle.et_initialize.specs.Under.{HasMadeStrings, base}
use Rattle.et_initialize.proofs.Beginning.{strings_led}
use Rattle.et_initialize.proofs.Counting.{room_fits}
use Rattle.et_initialize.proofs.Setting.{written_state}
use Rattle.et_initialize.proofs.Statics.{AreStatics}
use Rattle.et_initialize.proofs.Stepping.{has_frame_on, top_on, one_fits}
use Rattle.et_refs.specs.declared.doing.accesses.Read.{Read}
use Rattle.et_refs.specs.declared.doing.accesses.Write.{Write}
use Rattle.et_refs.specs.declared.doing.accesses.Access.{Access}
use Rattle.et_refs.specs.declared.doing.accesses.Access.TheVariants as access
use Rattle.et_refs.specs.declared.doing.accesses.Wanted.{Wanted}
use Rattle.et_refs.specs.Accesses.{with_access, access_outcome, objects_in, slots_accessed, MayAccess, MayRead, MayWrite, MayWant, CanAccess, Accesses, reads, access_written, replaces}

-- so far the event has come to d: it initialized classes, and did nothing else
pub record HasInitialized (p : Linked) (m : MachineState) (d : Doing) : Type 0 where
  pub made : HasMadeStrings (kept_of m) d.state []
  pub statics : AreStatics p d.state.guest.statics
  pub threads : d.state.guest.threads ≡ m.guest.threads

pub base_threads : (p : Linked) (m m₂ : MachineState) (d : Doing) → HasInitialized p m d → m₂ ≡ base m d → m₂.guest.threads ≡ m.guest.threads
base_threads p m m₂ d done e = ap (λ (z : MachineState). z.guest.threads) e ∙ done.threads

-- WHAT THE CALL NEEDS

can_by : (p : Linked) (m n : MachineState) (t c : ℕ) (f : FrameState) (a : Access) → AreStatics p n.guest.statics → MayAccess p f a → has_room n.heap (objects_in a) (slots_accessed p c a) ≡ true → CanAccess p n f c a
can_by p m n t c f (access.Read x) statics may room = record {
  slot = subst (λ (k : ℕ). x.slot < k) (sym statics.slots) may.slot;
  room = may.room (static_at n.guest x.slot) (ap (λ (k : Option Operand). is_of_kind k (static_at n.guest x.slot)) may.kind ∙ statics.typed x.slot may.slot);
}
can_by p m n t c f (access.Write x) statics may room = record { slot = subst (λ (k : ℕ). x.slot < k) (sym statics.slots) may.slot; taken = may.taken; few = may.few }
can_by p m n t c f access.Make statics may room = record { operands = may; room = room }

pub can_access : (p : Linked) (t : ℕ) (m m₂ : MachineState) (d : Doing) (x : Wanted) → HasInitialized p m d → MayWant p (top m.guest t) x → has_room d.state.heap (objects_in x.access) (slots_accessed p x.class x.access) ≡ true
    → m₂ ≡ base m d → CanAccess p m₂ (top m₂.guest t) x.class x.access
can_access p t m m₂ d x done may room e =
    let n = base m d in
    let here : CanAccess p n (top n.guest t) x.class x.access =
    can_by p m n t x.class (top n.guest t) x.access done.statics (subst (λ (f : FrameState). MayAccess p f x.access) (sym (top_on m.guest n.guest t done.threads)) may.access) room in
    subst (λ (z : MachineState). CanAccess p z (top z.guest t) x.class x.access) (sym e) here

-- WHAT FITS

some_made : (p : Linked) (m : MachineState) (d : Doing) → IsSound (kept_of m) → HasInitialized p m d → 0 < length d.state.heap
some_made p m d sound done = let room = sound.room in let grown = done.made.grown in omega (arith, room, grown)

pub fits_as : (e : Moment) (at : Site) (c : ℕ) (a : Access) (d : Doing) → 0 < length d.state.heap → fits_heap (with_access e at c a d).state.heap ≡ has_room d.state.heap (objects_in a) (slots_accessed e.program c a)
fits_as e at c (access.Read x) d some = sym (room_fits d.state.heap)
fits_as e at c (access.Write x) d some = ap (λ (k : Kept). fits_heap k.heap) (written_state e x.slot x.value (leaving_values e at (drop x.taken (current_frame e).operands) d)) ∙ sym (room_fits d.state.heap)
fits_as e at c access.Make d some = one_fits d.state.heap c 0 (class_at e.program c).info.slots some

-- THE STEP

-- a step of the event, and its records
record Steps (s : Kept) (m₃ : MachineState) (d : Doing) (out out₃ : List Record) : Type 0 where
  led : Led s d.state m₃
  records : out₃ ≡ out ++ d.records

-- the frame is as it was
pub frame_there : (m : MachineState) (n : MachineState) (t o : ℕ) → HasFrame m.guest t → n.guest.threads ≡ m.guest.threads → Contains (frame_roots (top n.guest t)) o → WasThere (kept_of m) (kept_of n) o
frame_there m n t o has threads c = root_there (kept_of m) (kept_of n) o (top_root m.guest t o has (subst (λ (f : FrameState). Contains (frame_roots f) o) (top_on m.guest n.guest t threads) c))

read_steps : (p : Linked) (t : ℕ) (at : Site) (m m₃ : MachineState) (d : Doing) (out out₂ out₃ : List Record) (c : ℕ) (x : Read) → HasFrame m.guest t → HasInitialized p m d → MayRead p (top m.guest t) x
    → out₂ ≡ out ++ d.records → m₃ ≡ reads t at.next x (base m d) → out₃ ≡ out₂ → Steps (kept_of m) m₃ (with_access (moment p m t) at c (access.Read x) d) out out₃
read_steps p t at m m₃ d out out₂ out₃ c x has done may r₂ e₃ r₃ =
    let s = kept_of m in
    let n = base m d in
    let v : Value = or_zero x.kind (static_at n.guest x.slot) in
    let f : FrameState = top n.guest t in
    let on : HasFrame n.guest t = has_frame_on m.guest n.guest t done.threads has in
    let lt : x.slot < length n.guest.statics = subst (λ (k : ℕ). x.slot < k) (sym done.statics.slots) may.slot in
    let held : (o : ℕ) → Contains (refs_of (entries_of v)) o → IsHeld n.heap o = λ o z. done.made.way.sound.roots o (static_root n.guest x.slot o lt (read_refers x.kind (static_at n.guest x.slot) o (entries_refer v o z))) in
    let way : IsOnWay s m₃ =
    did_on_way s n t (replaced 0 (entries_of v) at.next f) [] m₃ done.made.way on (record { is = e₃; moves = moves_held (MayEnter n) (MayBeLost s n) f 0 at.next (entries_of v) held (λ o z. frame_there m n t o has done.threads z) }) in
    let k : Kept = (with_access (moment p m t) at c (access.Read x) d).state in
    let is : kept_of m₃ ≡ k = ap (λ (z : MachineState). kept_of z) e₃ ∙ ap (λ (g : FrameState). kept_of (steps_top n t (replaced 0 (entries_of v) at.next g) [])) (top_on m.guest n.guest t done.threads) in
    record { led = strings_led s k m₃ way is done.made.grown (λ o low high. string_root k.guest o (done.made.made o low high)); records = r₃ ∙ r₂ }

updated_behind : (e : Moment) (o i : ℕ) (old v : Value) (s : Kept) (out records : List Record) → (updated e o i old v (record { state = s; records = out ++ records })).records ≡ out ++ (updated e o i old v (record { state = s; records = records })).records
updated_behind e o i old Unset s out records = refl
updated_behind e o i old (Int n) s out records = refl
updated_behind e o i old (Long n) s out records = refl
updated_behind e o i old LongHigh s out records = refl
updated_behind e o i old Null s out records = append_assoc out records _
updated_behind e o i old (Ref r) s out records = append_assoc out records _

-- what stands in a static field was there, or the event made it
static_there : (s x k : Kept) (i o : ℕ) → HasMadeStrings s k [] → length x.heap ≡ length k.heap → i < length k.guest.statics → Contains (refs_of_value (static_at k.guest i)) o → WasThere s x o
static_there s x k i o made same lt z =
    let root : Contains (roots_of k.guest) o = static_root k.guest i o lt z in
    let high : o < length k.heap = held_within k.heap o (made.way.sound.roots o root) in
    elim (made.roots o root) [ inl was ↦ root_there s x o was | inr low ↦ new_there s x o low (omega (arith, same, high)) ]

write_steps : (p : Linked) (t : ℕ) (at : Site) (m m₃ : MachineState) (d : Doing) (out out₂ out₃ : List Record) (c : ℕ) (x : Write) → HasFrame m.guest t → HasInitialized p m d → MayWrite p (top m.guest t) x
    → out₂ ≡ out ++ d.records → Accesses p t at.next c (access.Write x) (base m d) m₃ out₂ out₃ → Steps (kept_of m) m₃ (with_access (moment p m t) at c (access.Write x) d) out out₃
write_steps p t at m m₃ d out out₂ out₃ c x has done may r₂ did =
    let s = kept_of m in
    let e = moment p m t in
    let n = base m d in
    let f : FrameState = top n.guest t in
    let same : f ≡ top m.guest t = top_on m.guest n.guest t done.threads in
    let on : HasFrame n.guest t = has_frame_on m.guest n.guest t done.threads has in
    let lt : x.slot < length n.guest.statics = subst (λ (k : ℕ). x.slot < k) (sym done.statics.slots) may.slot in
    let lost : List ℕ = refs_of (take x.taken f.operands) in
    let b : MachineState = replaces t at.next x.taken [] n in
    let way₁ : IsOnWay s b =
    did_on_way s n t (replaced x.taken [] at.next f) lost b done.made.way on
    (record { is = refl; moves = moves_held (MayEnter n) (MayBeLost s n) f x.taken at.next [] (λ o z. absurd (Contains-none o z)) (λ o z. frame_there m n t o has done.threads z) }) in
    let held : (o : ℕ) → Contains (refs_of_value x.value) o → IsHeld b.heap o = λ o z. done.made.way.sound.roots o (top_root n.guest t o on (subst (λ (g : FrameState). Contains (frame_roots g) o) (sym same) (may.value o z))) in
    let way₂ : IsOnWay s (access_written t at.next x n) = on_set_static s b x.slot x.value way₁ lt held (λ o z. static_there s (kept_of b) d.state x.slot o done.made refl lt z) in
    let left : Doing = leaving_values e at (drop x.taken (top m.guest t).operands) d in
    let k : Kept = record { heap = d.state.heap; guest = with_static left.state.guest x.slot x.value } in
    let is : kept_of m₃ ≡ k =
    ap (λ (z : MachineState). kept_of z) did.0 ∙ ap (λ (g : FrameState). let w : Kept = record { heap = d.state.heap; guest = with_static (with_top d.state.guest t (replaced x.taken [] at.next g)) x.slot x.value } in w) same in
    let led : Led s k m₃ = strings_led s k m₃ (subst (λ (z : MachineState). IsOnWay s z) (sym did.0) way₂) is done.made.grown (λ o low high. string_root k.guest o (done.made.made o low high)) in
    let old : Value = static_at d.state.guest x.slot in
    record {
      led = subst (λ (z : Kept). Led s z m₃) (sym (written_state e x.slot x.value left)) led;
      records = did.1 p s k refl ∙ (ap (λ (l : List Record). (updated e 0 x.slot old x.value (record { state = k; records = l })).records) r₂ ∙ updated_behind e 0 x.slot old x.value k out d.records);
    }

pub operand_first : (f : FrameState) (o next : ℕ) → Contains (frame_roots (replaced 0 (Ref o ∷ []) next f)) o
operand_first f o next = Contains-append_right (refs_of f.locals) _ o (Contains-append_left (refs_of (Ref o ∷ drop 0 f.operands)) _ o (Contains-here o _))

make_steps : (p : Linked) (t : ℕ) (at : Site) (m m₃ : MachineState) (d : Doing) (out out₂ out₃ : List Record) (c : ℕ) → HasFrame m.guest t → HasInitialized p m d
    → out₂ ≡ out ++ d.records → Accesses p t at.next c access.Make (base m d) m₃ out₂ out₃ → Steps (kept_of m) m₃ (with_access (moment p m t) at c access.Make d) out out₃
make_steps p t at m m₃ d out out₂ out₃ c has done r₂ did =
    let s = kept_of m in
    let n = base m d in
    let slots = (class_at p c).info.slots in
    let y : ObjectState = new_object c 0 slots in
    let b : MachineState = with_new_object n y in
    let o₁ : ℕ = length d.state.heap in
    let f : FrameState = top b.guest t in
    let on : HasFrame b.guest t = has_frame_on m.guest b.guest t done.threads has in
    let one : (o : ℕ) → Contains (o₁ ∷ []) o → IsHeld b.heap o = λ o z. subst (λ (k : ℕ). IsHeld b.heap k) (Contains-one o₁ o z) (newest_held d.state.heap y) in
    let way : IsOnWay s m₃ =
    did_on_way s b t (replaced 0 (Ref o₁ ∷ []) at.next f) [] m₃ (on_make s n c 0 slots done.made.way) on
    (record { is = did.0; moves = moves_held (MayEnter b) (MayBeLost s b) f 0 at.next (Ref o₁ ∷ []) one (λ o z. frame_there m b t o has done.threads z) }) in
    let k : Kept = (with_access (moment p m t) at c access.Make d).state in
    let is : kept_of m₃ ≡ k = ap (λ (z : MachineState). kept_of z) did.0 ∙ ap (λ (g : FrameState). kept_of (steps_top b t (replaced 0 (Ref o₁ ∷ []) at.next g) [])) (top_on m.guest b.guest t done.threads) in
    let long : length b.heap ≡ o₁ + 1 = length_push d.state.heap (Some y) in
    let grown = done.made.grown in
    let root : Contains (roots_of k.guest) o₁ = with_top_root b.guest t (replaced 0 (Ref o₁ ∷ []) at.next (top m.guest t)) o₁ on.thread (operand_first (top m.guest t) o₁ at.next) in
    let last : Record = Alloc d.state.guest.clock t o₁ c (16 + 8 * slots) 0 in
    record {
      led = strings_led s k m₃ way is (omega (arith, long, grown)) (λ o low high. elim (cases_eq o o₁) [
        | inl same ↦ subst (λ (i : ℕ). Contains (roots_of k.guest) i) (sym same) root
        | inr ne ↦ string_root k.guest o (done.made.made o low (below o o₁ (length b.heap) high long ne))
      ]);
      records = did.1 ∙ (ap (λ (l : List Record). l ++ last ∷ []) r₂ ∙ append_assoc out d.records (last ∷ []));
    }
  where
    below : (o m l : ℕ) → o < l → l ≡ m + 1 → (o ≡ m → ⊥) → o < m
    below o m l lt e ne = omega arith

steps_by : (p : Linked) (t : ℕ) (at : Site) (m m₃ : MachineState) (d : Doing) (out out₂ out₃ : List Record) (c : ℕ) (a : Access) → HasFrame m.guest t → HasInitialized p m d → MayAccess p (top m.guest t) a
    → out₂ ≡ out ++ d.records → Accesses p t at.next c a (base m d) m₃ out₂ out₃ → Steps (kept_of m) m₃ (with_access (moment p m t) at c a d) out out₃
steps_by p t at m m₃ d out out₂ out₃ c (access.Read x) has done may r₂ did = read_steps p t at m m₃ d out out₂ out₃ c x has done may r₂ did.0 did.1
steps_by p t at m m₃ d out out₂ out₃ c (access.Write x) has done may r₂ did = write_steps p t at m m₃ d out out₂ out₃ c x has done may r₂ did
steps_by p t at m m₃ d out out₂ out₃ c access.Make has done may r₂ did = make_steps p t at m m₃ d out out₂ out₃ c has done r₂ did

-- THE EVENT

pub accessed_answers : (p : Linked) (t : ℕ) (at : Site) (x : Wanted) (m m₂ m₃ : MachineState) (d : Doing) (out out₂ out₃ : List Record) → IsSound (kept_of m) → HasFrame m.guest t → HasInitialized p m d → MayWant p (top m.guest t) x
    → has_room d.state.heap (objects_in x.access) (slots_accessed p x.class x.access) ≡ true → m₂ ≡ base m d → out₂ ≡ out ++ d.records → Accesses p t at.next x.class x.access m₂ m₃ out₂ out₃
    → EventAnswers (access_outcome (moment p m t) at x d) endings.Done m m₃ out out₃
accessed_answers p t at x m m₂ m₃ d out out₂ out₃ sound has done may room e₂ r₂ did =
    let e = moment p m t in
    let y : Doing = with_access e at x.class x.access d in
    let steps = steps_by p t at m m₃ d out out₂ out₃ x.class x.access has done may.access r₂ (subst (λ (z : MachineState). Accesses p t at.next x.class x.access z m₃ out₂ out₃) e₂ did) in
    let fit : fits_heap y.state.heap ≡ true = fits_as e at x.class x.access d (some_made p m d sound done) ∙ room in
    subst (λ (z : Outcome Kept). EventAnswers z endings.Done m m₃ out out₃) (sym (ends_fit y fit)) (steps.led, steps.records)

pub access_full : (p : Linked) (t : ℕ) (at : Site) (x : Wanted) (m : MachineState) (d : Doing) (out : List Record) → IsSound (kept_of m) → HasInitialized p m d → has_room d.state.heap (objects_in x.access) (slots_accessed p x.class x.access) ≡ false
    → EventAnswers (access_outcome (moment p m t) at x d) endings.ObjectLimit m m out out
access_full p t at x m d out sound done room =
    let e = moment p m t in
    let y : Doing = with_access e at x.class x.access d in
    let fit : fits_heap y.state.heap ≡ false = fits_as e at x.class x.access d (some_made p m d sound done) ∙ room in
    subst (λ (z : Outcome Kept). EventAnswers z endings.ObjectLimit m m out out) (sym (ends_full y fit)) (refl, refl)
