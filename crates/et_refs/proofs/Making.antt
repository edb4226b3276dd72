-- How much the arrays of some dimensions are.
use Rattle.std.proofs.Common.{◌≡◌, ℕ, zero, suc, ◌+◌, ◌-◌, ◌*◌, ◌<◌, leb, List, [], ◌∷◌, ◌++◌, length, set, replicate, Option, None, Some, refl, sym, ◌∙◌, ap, arith}
use Rattle.std.specs.Prelude.{◌&&◌}
use Rattle.std.proofs.lemmas.List.{length_push, length-set, length-replicate}
use Rattle.std.proofs.lemmas.List.Sums.{sum_by_push, sum_by-cons}
use Rattle.et_base.specs.declared.value.Value.{Value}
use Rattle.et_base.specs.declared.value.Value.TheVariants.{Unset, Ref}
use Rattle.et_heap.specs.Objects.{ObjectState, Objects, new_object, object_at, with_slot, with_object_at, slots_in, slot_count, has_room, most_objects, most_slots}
use Rattle.et_program.specs.Entries.{class_at}
use Rattle.et_event.specs.Heap.{arrays_made, filled, element_class}
use Rattle.et_event.specs.Moments.{Moment, Doing, next_object, array_made, slot_written, fits_heap}
use Rattle.et_refs.specs.Counts.{array_count, array_slots}

-- a slot that is written changes no count
pub same_slots : (xs : Objects) (o i : ℕ) (v : Value) → slot_count (with_object_at xs o (with_slot i v (object_at xs o))) ≡ slot_count xs
same_slots [] o i v = refl
same_slots (None ∷ xs) zero i v = refl
same_slots (Some x ∷ xs) zero i v =
    sum_by-cons slots_in (Some (with_slot i v x)) xs ∙ (ap (λ (n : ℕ). n + slot_count xs) (length-set x.slots i v) ∙ sym (sum_by-cons slots_in (Some x) xs))
same_slots (x ∷ xs) (suc o) i v =
    let y : Option ObjectState = Some (with_slot i v (object_at xs o)) in
    sum_by-cons slots_in x (set xs o y) ∙ (ap (λ (n : ℕ). slots_in x + n) (same_slots xs o i v) ∙ sym (sum_by-cons slots_in x xs))

-- so many objects and slots more
pub record Grows (n k : ℕ) (d x : Doing) : Type 0 where
  pub objects : length x.state.heap ≡ length d.state.heap + n
  pub slots : slot_count x.state.heap ≡ slot_count d.state.heap + k

array_grows : (e : Moment) (c n : ℕ) (d : Doing) → Grows 1 n d (array_made e c n d)
array_grows e c n d =
    let more : slot_count (d.state.heap ++ Some (new_object c n n) ∷ []) ≡ slot_count d.state.heap + length (replicate n Unset) = sum_by_push slots_in d.state.heap (Some (new_object c n n)) in
    record { objects = length_push d.state.heap (Some (new_object c n n)); slots = more ∙ ap (λ (k : ℕ). slot_count d.state.heap + k) (length-replicate n Unset) }

written_grows : (e : Moment) (o i k objects slots : ℕ) (d x : Doing) → Grows objects slots d x → Grows objects slots d (slot_written e o i (Ref k) x)
written_grows e o i k objects slots d x h = record {
  objects = length-set x.state.heap o (Some (with_slot i (Ref k) (object_at x.state.heap o))) ∙ h.objects;
  slots = same_slots x.state.heap o i (Ref k) ∙ h.slots;
}

grows_then : (a b c k l m : ℕ) (d x y : Doing) → Grows a k d x → Grows b l x y → c ≡ a + b → m ≡ k + l → Grows c m d y
grows_then a b c k l m d x y g h same size =
    let p = g.objects in
    let q = h.objects in
    let r = g.slots in
    let s = h.slots in
    record { objects = omega (arith, p, q, same); slots = omega (arith, r, s, size) }

filled_grows : (e : Moment) (o objects slots : ℕ) (make : Doing → Doing) (i : ℕ) (d : Doing) → ((x : Doing) → Grows objects slots x (make x)) → Grows (i * objects) (i * slots) d (filled e o make i d)
filled_grows e o objects slots make zero d h = record { objects = omega arith; slots = omega arith }
filled_grows e o objects slots make (suc i) d h =
    let x = filled e o make i d in
    written_grows e o i (next_object x) (suc i * objects) (suc i * slots) d (make x)
    (grows_then (i * objects) objects (suc i * objects) (i * slots) slots (suc i * slots) d x (make x) (filled_grows e o objects slots make i d h) (h x) (grind arith) (grind arith))

pub made_grows : (e : Moment) (c : ℕ) (ns : List ℕ) (d : Doing) → Grows (array_count ns) (array_slots ns) d (arrays_made e c ns d)
made_grows e c [] d = record { objects = omega arith; slots = omega arith }
made_grows e c (n ∷ []) d =
    let h = array_grows e c n d in
    let p = h.objects in
    let q = h.slots in
    record { objects = grind (arith, p); slots = grind (arith, q) }
made_grows e c (n ∷ m ∷ more) d =
    let inner = element_class (class_at e.program c).info.element in
    let x = array_made e c n d in
    let make = arrays_made e inner (m ∷ more) in
    grows_then 1 (n * array_count (m ∷ more)) (array_count (n ∷ m ∷ more)) n (n * array_slots (m ∷ more)) (array_slots (n ∷ m ∷ more)) d x (filled e (next_object d) make n x)
    (array_grows e c n d) (filled_grows e (next_object d) (array_count (m ∷ more)) (array_slots (m ∷ more)) make n x (λ y. made_grows e inner (m ∷ more) y)) refl refl

pub made_fits : (e : Moment) (c : ℕ) (ns : List ℕ) (d : Doing) (heap : Objects) → d.state.heap ≡ heap → 0 < length heap → fits_heap (arrays_made e c ns d).state.heap ≡ has_room heap (array_count ns) (array_slots ns)
made_fits e c ns d heap is some =
    let h = made_grows e c ns d in
    let p = h.objects in
    let same : length d.state.heap ≡ length heap = ap (λ (xs : Objects). length xs) is in
    let number : length (arrays_made e c ns d).state.heap - 1 ≡ length heap - 1 + array_count ns = omega (arith, p, same, some) in
    let size : slot_count (arrays_made e c ns d).state.heap ≡ slot_count heap + array_slots ns = h.slots ∙ ap (λ (xs : Objects). slot_count xs + array_slots ns) is in
    ap (λ (n : ℕ). leb n most_objects && leb (slot_count (arrays_made e c ns d).state.heap) most_slots) number
    ∙ ap (λ (n : ℕ). leb (length heap - 1 + array_count ns) most_objects && leb n most_slots) size
