-- Slots of objects and static slots are written.
use Rattle.std.proofs.Common.{◌≡◌, ℕ, ◌-◌, ◌<◌, ◌⊎◌, ◌&&◌, Bool, true, false, List, [], ◌∷◌, length, set, get_or, Option, Some, None, Contains, refl, sym, ◌∙◌, ap, subst, inl, inr, arith, get_or-set_same}
use Rattle.std.specs.Prelude.{All, nat_le}
use Rattle.std.specs.List.{slice_index_or}
use Rattle.std.proofs.lemmas.Bool.{cases_eq}
use Rattle.std.proofs.lemmas.List.{length-set, get_or-set_other}
use Rattle.std.proofs.lemmas.List.Sums.{sum_by-set}
use Rattle.et_base.specs.declared.value.Value.{Value}
use Rattle.et_base.specs.declared.value.Value.TheVariants.{Unset}
use Rattle.et_program.specs.Entries.{Linked, class_at, field_at}
use Rattle.et_program.specs.declared.info.Element.{Element}
use Rattle.et_program.specs.declared.info.Element.TheVariants.{NoArray}
use Rattle.et_heap.specs.Objects.{ObjectState, Objects, IsHeld, at, object_at, slot_of, with_slot, with_referent, with_monitor, with_object_at, slots_in, slot_count, made_count, most_objects, most_slots, with_queue}
use Rattle.et_heap.specs.declared.monitor.Monitor.{Monitor}
use Rattle.et_heap.proofs.HeapLists.{held_within, held_set}
use Rattle.et_state.specs.declared.class_state.ClassState.TheVariants.{Untouched}
use Rattle.et_state.specs.State.{GuestState, Kept}
use Rattle.et_state.specs.Words.{static_at, with_static, class_state_at}
use Rattle.et_event.specs.PoolOperands.Operand.{Operand}
use Rattle.et_event.specs.Operands.{operand_kind}
use Rattle.et_event.specs.Moments.{Moment, Doing, slot_written, static_written, fits_heap}
use Rattle.et_event.specs.BuiltIns.{with_referent_of, with_queue_of, with_reference_made, with_first_taken}
use Rattle.et_event.specs.Sound.{is_of_kind, kind_of_element, HasField, IsSoundObject, IsSoundStatic}
use Rattle.et_history.specs.soundness.WellFormed.{IsWellFormed}
use Rattle.et_event.specs.Programs.{MayHold}
use Rattle.et_history.proofs.soundness.Objects.{heap_now, object_well, object_is_sound, found_there}
use Rattle.et_history.proofs.soundness.Threads.{beside_threads, guest_now}
use Rattle.et_heap.specs.Queues.{with_waits, without_first_waiting, take_first}
use Rattle.et_base.proofs.Lists.{Contains-here}
use Rattle.et_event.proofs.Values.{updated_state}

-- LISTS

at_same : {X : Type 0} (ys : List X) (j l : ℕ) (y e : X) → l ≡ j → l < length ys → get_or (set ys j y) l e ≡ y
at_same ys j l y e same lt = subst (λ (m : ℕ). get_or (set ys j y) m e ≡ y) (sym same) (get_or-set_same ys j y e (subst (λ (m : ℕ). m < length ys) same lt))

pub set_all : {X : Type 0} (P : X → Type 0) (xs : List X) (i : ℕ) (x : X) → All P xs → P x → All P (set xs i x)
set_all P xs i x h new k d lt =
    let n : length (set xs i x) ≡ length xs = length-set xs i x in
    let inside : k < length xs = omega arith in
    elim (cases_eq k i) [
      | inl e ↦ subst P (sym (at_same xs i k x d e inside)) new
      | inr ne ↦ subst P (sym (get_or-set_other xs i k x d ne)) (h k d inside)
    ]

-- A SLOT OF AN OBJECT

value_now : (k : Option Operand) (x : ObjectState) (i slot : ℕ) (v : Value) → slot < length x.slots → is_of_kind k (slot_of x slot) ≡ true → (slot ≡ i → is_of_kind k v ≡ true) → is_of_kind k (slot_of (with_slot i v x) slot) ≡ true
value_now k x i slot v inside old new =
    elim (cases_eq slot i) [
      | inl e ↦ ap (λ (w : Value). is_of_kind k w) (at_same x.slots i slot v Unset e inside) ∙ new e
      | inr ne ↦ ap (λ (w : Value). is_of_kind k w) (get_or-set_other x.slots i slot v Unset ne) ∙ old
    ]

field_now : (p : Linked) (x : ObjectState) (i : ℕ) (v : Value) (f : ℕ) → HasField p x f → ((field_at p f).slot ≡ i → is_of_kind (operand_kind (field_at p f).descriptor) v ≡ true) → HasField p (with_slot i v x) f
field_now p x i v f was may =
    let n : length (set x.slots i v) ≡ length x.slots = length-set x.slots i v in
    record {
      slot = subst (λ (k : ℕ). (field_at p f).slot < k) (sym n) was.slot;
      value = value_now (operand_kind (field_at p f).descriptor) x i (field_at p f).slot v was.slot was.value may;
    }

abbrev IsElement : Element → Value → Type 0
IsElement e v = is_of_kind (kind_of_element e) v ≡ true

elements_now : (e : Element) (vs : List Value) (i : ℕ) (v : Value) → All (IsElement e) vs ⊎ (e ≡ NoArray) → IsElement e v ⊎ (e ≡ NoArray) → All (IsElement e) (set vs i v) ⊎ (e ≡ NoArray)
elements_now e vs i v (inl all) (inl new) = inl (set_all (IsElement e) vs i v all new)
elements_now e vs i v (inl all) (inr none) = inr none
elements_now e vs i v (inr none) new = inr none

pub slot_sound : (p : Linked) (x : ObjectState) (i : ℕ) (v : Value) → IsSoundObject p x → MayHold p x.class i v → IsSoundObject p (with_slot i v x)
slot_sound p x i v h may = record {
  class = h.class;
  slots = length-set x.slots i v ∙ h.slots;
  fields = λ f lt static below. field_now p x i v f (h.fields f lt static below) (λ e. may.fields f lt static below e);
  elements = elements_now (class_at p x.class).info.element x.slots i v h.elements may.elements;
}

pub slot_well : (p : Linked) (e : Moment) (o i : ℕ) (v : Value) (d : Doing) → IsWellFormed p d.state → IsHeld d.state.heap o → MayHold p (object_at d.state.heap o).class i v → IsWellFormed p (slot_written e o i v d).state
slot_well p e o i v d h held may =
    let x : ObjectState = object_at d.state.heap o in
    let was = object_is_sound p d.state o h held in
    let next : Doing = record { state = heap_now d.state (with_object_at d.state.heap o (with_slot i v x)); records = d.records } in
    subst (λ (s : Kept). IsWellFormed p s) (sym (updated_state e o i (slot_of x i) v next))
    (object_well p d.state o (with_slot i v x) h held (slot_sound p x i v was.0 may) was.1 refl)

-- .. its referent, and its monitor

pub referent_sound : (p : Linked) (x : ObjectState) (r : Option ℕ) → IsSoundObject p x → IsSoundObject p (with_referent r x)
referent_sound p x r h = record { class = h.class; slots = h.slots; fields = λ f lt static below. let has = h.fields f lt static below in record { slot = has.slot; value = has.value }; elements = h.elements }

pub monitor_sound : (p : Linked) (x : ObjectState) (m : Monitor) → IsSoundObject p x → IsSoundObject p (with_monitor m x)
monitor_sound p x m h = record { class = h.class; slots = h.slots; fields = λ f lt static below. let has = h.fields f lt static below in record { slot = has.slot; value = has.value }; elements = h.elements }

pub referent_well : (p : Linked) (o : ℕ) (r : Option ℕ) (d : Doing) → IsWellFormed p d.state → IsHeld d.state.heap o → IsWellFormed p (with_referent_of o r d).state
referent_well p o r d h held =
    let x : ObjectState = object_at d.state.heap o in
    let was = object_is_sound p d.state o h held in
    object_well p d.state o (with_referent r x) h held (referent_sound p x r was.0) was.1 refl

-- .. its queue, who waits in it, and whether it waits

queue_sound : (p : Linked) (x : ObjectState) (q : Option ℕ) → IsSoundObject p x → IsSoundObject p (with_queue q x)
queue_sound p x q h = record { class = h.class; slots = h.slots; fields = λ f lt static below. let has = h.fields f lt static below in record { slot = has.slot; value = has.value }; elements = h.elements }

waits_sound : (p : Linked) (x : ObjectState) (b : Bool) → IsSoundObject p x → IsSoundObject p (with_waits b x)
waits_sound p x b h = record { class = h.class; slots = h.slots; fields = λ f lt static below. let has = h.fields f lt static below in record { slot = has.slot; value = has.value }; elements = h.elements }

first_sound : (p : Linked) (x : ObjectState) → IsSoundObject p x → IsSoundObject p (without_first_waiting x)
first_sound p x h = record { class = h.class; slots = h.slots; fields = λ f lt static below. let has = h.fields f lt static below in record { slot = has.slot; value = has.value }; elements = h.elements }

pub queue_well : (p : Linked) (o : ℕ) (q : Option ℕ) (d : Doing) → IsWellFormed p d.state → IsHeld d.state.heap o → IsWellFormed p (with_queue_of o q d).state
queue_well p o q d h held =
    let x : ObjectState = object_at d.state.heap o in
    let was = object_is_sound p d.state o h held in
    object_well p d.state o (with_queue q x) h held (queue_sound p x q was.0) was.1 refl

-- a weak reference is made
pub reference_well : (p : Linked) (o : ℕ) (r q : Option ℕ) (d : Doing) → IsWellFormed p d.state → IsHeld d.state.heap o → IsWellFormed p (with_reference_made o r q d).state
reference_well p o r q d h held =
    queue_well p o q (with_referent_of o r d) (referent_well p o r d h held) (held_set d.state.heap o (with_referent r (object_at d.state.heap o)) o held held)

taken_well : (p : Linked) (q : ℕ) (ws : List ℕ) (s : Kept) → IsWellFormed p s → IsHeld s.heap q → ((r : ℕ) → Contains ws r → IsHeld s.heap r) → IsWellFormed p (heap_now s (take_first ws q s.heap))
taken_well p q [] s h held all = h
taken_well p q (r ∷ ws) s h held all =
    let x : ObjectState = object_at s.heap q in
    let was = object_is_sound p s q h held in
    let first : Kept = heap_now s (with_object_at s.heap q (without_first_waiting x)) in
    let well : IsWellFormed p first = object_well p s q (without_first_waiting x) h held (first_sound p x was.0) was.1 refl in
    let there : IsHeld first.heap r = held_set s.heap q (without_first_waiting x) r held (all r (Contains-here r ws)) in
    let is = object_is_sound p first r well there in
    object_well p first r (with_waits false (object_at first.heap r)) well there (waits_sound p (object_at first.heap r) false is.0) is.1 refl

-- a queue is polled
pub first_taken_well : (p : Linked) (q : ℕ) (d : Doing) → IsWellFormed p d.state → IsHeld d.state.heap q → ((r : ℕ) → Contains (object_at d.state.heap q).waiting r → IsHeld d.state.heap r) → IsWellFormed p (with_first_taken q d).state
first_taken_well p q d h held all = taken_well p q (object_at d.state.heap q).waiting d.state h held all

-- WHAT FITS still fits where an object has as many slots as before

slots_same : (heap : Objects) (o : ℕ) (y : Option ObjectState) → o < length heap → slots_in y ≡ slots_in (at heap o) → slot_count (set heap o y) ≡ slot_count heap
slots_same heap o y lt e = let written = sum_by-set slots_in heap o y None lt in omega arith

pub fits_as : (heap heap' : Objects) → length heap' ≡ length heap → slot_count heap' ≡ slot_count heap → fits_heap heap ≡ true → fits_heap heap' ≡ true
fits_as heap heap' n m h =
    ap (λ (k : ℕ). nat_le (k - 1) most_objects && nat_le (slot_count heap') most_slots) n ∙ (ap (λ (k : ℕ). nat_le (made_count heap) most_objects && nat_le k most_slots) m ∙ h)

pub fits_still : (heap : Objects) (o : ℕ) (y : ObjectState) → IsHeld heap o → length y.slots ≡ length (object_at heap o).slots → fits_heap heap ≡ true → fits_heap (with_object_at heap o y) ≡ true
fits_still heap o y held same h =
    fits_as heap (with_object_at heap o y) (length-set heap o (Some y))
    (slots_same heap o (Some y) (held_within heap o held) (same ∙ sym (ap (λ (x : Option ObjectState). slots_in x) (found_there heap o held)))) h

pub reference_fits : (heap : Objects) (o : ℕ) (r q : Option ℕ) → IsHeld heap o → fits_heap heap ≡ true
    → fits_heap (with_object_at (with_object_at heap o (with_referent r (object_at heap o))) o (with_queue q (object_at (with_object_at heap o (with_referent r (object_at heap o))) o))) ≡ true
reference_fits heap o r q held h =
    let y : ObjectState = with_referent r (object_at heap o) in
    let first : Objects = with_object_at heap o y in
    fits_still first o (with_queue q (object_at first o)) (held_set heap o y o held held) refl (fits_still heap o y held refl h)

pub first_taken_fits : (heap : Objects) (q : ℕ) (ws : List ℕ) → IsHeld heap q → ((r : ℕ) → Contains ws r → IsHeld heap r) → fits_heap heap ≡ true → fits_heap (take_first ws q heap) ≡ true
first_taken_fits heap q [] held all h = h
first_taken_fits heap q (r ∷ ws) held all h =
    let y : ObjectState = without_first_waiting (object_at heap q) in
    let first : Objects = with_object_at heap q y in
    fits_still first r (with_waits false (object_at first r)) (held_set heap q y r held (all r (Contains-here r ws))) refl (fits_still heap q y held refl h)

pub slot_fits : (e : Moment) (o i : ℕ) (v : Value) (d : Doing) → IsHeld d.state.heap o → fits_heap d.state.heap ≡ true → fits_heap (slot_written e o i v d).state.heap ≡ true
slot_fits e o i v d held h =
    let x : ObjectState = object_at d.state.heap o in
    let next : Doing = record { state = heap_now d.state (with_object_at d.state.heap o (with_slot i v x)); records = d.records } in
    subst (λ (s : Kept). fits_heap s.heap ≡ true) (sym (updated_state e o i (slot_of x i) v next)) (fits_still d.state.heap o (with_slot i v x) held (length-set x.slots i v) h)

-- A STATIC SLOT

static_now : (p : Linked) (g : GuestState) (i j : ℕ) (v : Value) → i < length g.statics → is_of_kind (operand_kind (field_at p (slice_index_or p.statics i 0)).descriptor) v ≡ true → (class_state_at g (field_at p (slice_index_or p.statics i 0)).class ≡ Untouched → ⊥) → IsSoundStatic p g j → IsSoundStatic p (with_static g i v) j
static_now p g i j v lt kind touched h =
    elim (cases_eq j i) [
      | inl e ↦
          let now : static_at (with_static g i v) i ≡ v = get_or-set_same g.statics i v Unset lt in
          subst (λ (k : ℕ). IsSoundStatic p (with_static g i v) k) (sym e)
          (record { value = ap (λ (w : Value). is_of_kind (operand_kind (field_at p (slice_index_or p.statics i 0)).descriptor) w) now ∙ kind; untouched = λ u. absurd (touched u) })
      | inr ne ↦
          let same : static_at (with_static g i v) j ≡ static_at g j = get_or-set_other g.statics i j v Unset ne in
          record { value = ap (λ (w : Value). is_of_kind (operand_kind (field_at p (slice_index_or p.statics j 0)).descriptor) w) same ∙ h.value; untouched = λ u. same ∙ h.untouched u }
    ]

pub with_static_well : (p : Linked) (s : Kept) (i : ℕ) (v : Value) → IsWellFormed p s → i < length p.statics → is_of_kind (operand_kind (field_at p (slice_index_or p.statics i 0)).descriptor) v ≡ true → (class_state_at s.guest (field_at p (slice_index_or p.statics i 0)).class ≡ Untouched → ⊥)
    → IsWellFormed p (guest_now s (with_static s.guest i v))
with_static_well p s i v h lt kind touched =
    let n : length s.guest.statics ≡ length p.statics = h.statics.0 in
    beside_threads p s s.guest.classes s.guest.class_monitors (set s.guest.statics i v) s.guest.interned h h.classes h.class_monitors (length-set s.guest.statics i v ∙ n, λ j le. static_now p s.guest i j v (omega arith) kind touched (h.statics.1 j le))

pub static_well : (p : Linked) (e : Moment) (i : ℕ) (v : Value) (d : Doing) → IsWellFormed p d.state → i < length p.statics → is_of_kind (operand_kind (field_at p (slice_index_or p.statics i 0)).descriptor) v ≡ true
    → (class_state_at d.state.guest (field_at p (slice_index_or p.statics i 0)).class ≡ Untouched → ⊥) → IsWellFormed p (static_written e i v d).state
static_well p e i v d h lt kind touched =
    let next : Doing = record { state = guest_now d.state (with_static d.state.guest i v); records = d.records } in
    subst (λ (s : Kept). IsWellFormed p s) (sym (updated_state e 0 i (static_at d.state.guest i) v next)) (with_static_well p d.state i v h lt kind touched)
