-- Objects that are made.
use Rattle.std.proofs.Common.{◌≡◌, ℕ, ◌+◌, ◌<◌, ◌≤◌, ◌&&◌, [], ◌∷◌, ◌++◌, length, replicate, Some, ◌∙◌, ap, inl, inr, arith}
use Rattle.std.specs.Prelude.{nat_le}
use Rattle.std.proofs.lemmas.List.{length_push, length-replicate}
use Rattle.std.proofs.lemmas.List.Sums.{sum_by_push}
use Rattle.et_base.specs.declared.value.Value.TheVariants.{Unset}
use Rattle.et_heap.specs.Objects.{ObjectState, Objects, new_object, slots_in, made_count, slot_count, most_objects, most_slots, has_room}
use Rattle.et_state.specs.State.{MachineState}
use Rattle.et_event.specs.Moments.{fits_heap}
use Rattle.et_event.specs.Making.{MayHaveMade}

pushed_slots : (heap : Objects) (class elements slots : ℕ) → slot_count (heap ++ Some (new_object class elements slots) ∷ []) ≡ slot_count heap + slots
pushed_slots heap class elements slots =
    let more : slot_count (heap ++ Some (new_object class elements slots) ∷ []) ≡ slot_count heap + length (replicate slots Unset) = sum_by_push slots_in heap (Some (new_object class elements slots)) in
    more ∙ ap (λ (n : ℕ). slot_count heap + n) (length-replicate slots Unset)

-- an object fits exactly where there is room for it
pub fits_made : (heap : Objects) (class elements slots : ℕ) → fits_heap (heap ++ Some (new_object class elements slots) ∷ []) ≡ has_room heap 1 slots
fits_made [] class elements slots = ap (λ (n : ℕ). nat_le n most_slots) (pushed_slots [] class elements slots)
fits_made (x ∷ xs) class elements slots =
    let heap : Objects = x ∷ xs in
    let pushed : length (heap ++ Some (new_object class elements slots) ∷ []) ≡ length heap + 1 = length_push heap (Some (new_object class elements slots)) in
    let some : 0 < length heap = omega arith in
    let objects : made_count (heap ++ Some (new_object class elements slots) ∷ []) ≡ made_count heap + 1 = omega arith in
    ap (λ (n : ℕ). nat_le n most_objects && nat_le (slot_count (heap ++ Some (new_object class elements slots) ∷ [])) most_slots) objects
    ∙ ap (λ (n : ℕ). nat_le (made_count heap + 1) most_objects && nat_le n most_slots) (pushed_slots heap class elements slots)

-- WHERE MEMORY WAS WANTING there are the objects that there were, and one more at most
pub left_grown : (x : ObjectState) (m m' : MachineState) → MayHaveMade x m m' → length m.heap ≤ length m'.heap
left_grown x m m' (inl same) = let e = ap (λ (z : MachineState). length z.heap) same in omega (arith, e)
left_grown x m m' (inr made) =
    let e = ap (λ (z : MachineState). length z.heap) made in
    let pushed = length_push m.heap (Some x) in
    omega (arith, e, pushed)

pub left_one : (x : ObjectState) (m m' : MachineState) → MayHaveMade x m m' → length m'.heap ≤ length m.heap + 1
left_one x m m' (inl same) = let e = ap (λ (z : MachineState). length z.heap) same in omega (arith, e)
left_one x m m' (inr made) =
    let e = ap (λ (z : MachineState). length z.heap) made in
    let pushed = length_push m.heap (Some x) in
    omega (arith, e, pushed)
