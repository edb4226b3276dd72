-- What may be put in the place of operands, and what may be written to a slot.
use Rattle.std.proofs.Common.{◌≡◌, ℕ, ◌+◌, ◌≤◌, true, Option, length, drop, arith, Contains}
use Rattle.et_base.specs.declared.value.Value.{Value}
use Rattle.et_heap.specs.Objects.{Objects, object_at, slot_of}
use Rattle.et_heap.specs.Refs.{refs_of_value}
use Rattle.et_state.specs.ThreadRoots.{frame_roots}
use Rattle.et_state.specs.Threads.{FrameState}
use Rattle.et_event.specs.Checks.{entries_of}
use Rattle.et_event.specs.PoolOperands.Operand.{Operand}
use Rattle.et_event.specs.Sound.{is_of_kind}
use Rattle.et_event.specs.Tops.{IsIn}
use Rattle.et_event.proofs.Taking.{length_dropped}
use Rattle.et_refs.specs.Changes.{MayExchange, MayStore, is_number}
use Rattle.et_refs.specs.Reads.{AreHeld}
use Rattle.et_refs.specs.Slots.{IsSlotAt}
use Rattle.et_refs.specs.declared.slots.SlotAt.{SlotAt}
use Rattle.et_refs.proofs.Reading.{no_reference_there}

-- no more entries than are taken
pub may_put : (heap : Objects) (f : FrameState) (n : ℕ) (v : Value) → n ≤ length f.operands → n ≤ 8 → length (entries_of v) ≤ n → length f.operands ≤ f.room → AreHeld heap (refs_of_value v)
    → MayExchange heap f (record { taken = n; value = v })
may_put heap f n v deep few width fit held =
    let left : length (drop n f.operands) + n ≡ length f.operands = length_dropped f.operands n deep in
    record { taken = deep; few = few; room = omega arith; held = held }

-- what is kept of a value of the kind of the slot
pub may_store : (heap : Objects) (f : FrameState) (n : ℕ) (kind : Option Operand) (v kept : Value) (x : SlotAt) → n ≤ length f.operands → n ≤ 8 → Contains (frame_roots f) x.object → IsSlotAt heap kind x → IsIn f v → is_of_kind kind v ≡ true
    → ((o : ℕ) → Contains (refs_of_value kept) o → Contains (refs_of_value v) o) → (is_number kept ≡ true → is_number v ≡ true) → MayStore heap f (record { taken = n; object = x.object; slot = x.slot; value = kept })
may_store heap f n kind v kept x deep few object at inside is refers number = record {
  taken = deep;
  few = few;
  object = object;
  slot = at.slot;
  value = λ o c. inside o (refers o c);
  number = λ h. no_reference_there kind v (slot_of (object_at heap x.object) x.slot) (number h) is at.value;
}
