-- A slot that an instruction reads or writes.
use Rattle.std.specs.Prelude.{◌≡◌, ℕ, ◌<◌, true, length, Option, Some}
use Rattle.et_heap.specs.Objects.{Objects, IsHeld, object_at, slot_of}
use Rattle.et_event.specs.PoolOperands.Operand.{Operand}
use Rattle.et_event.specs.PoolOperands.Operand.TheVariants as operand
use Rattle.et_event.specs.Sound.{is_of_kind}
use Rattle.et_refs.specs.declared.slots.SlotAt.{SlotAt}

-- the object is held and has this slot, which holds nothing yet or a value of the kind
pub record IsSlotAt (heap : Objects) (kind : Option Operand) (x : SlotAt) : Type 0 where
  pub held : IsHeld heap x.object
  pub slot : x.slot < length (object_at heap x.object).slots
  pub value : is_of_kind kind (slot_of (object_at heap x.object) x.slot) ≡ true

-- how many entries a value of a kind takes
abbrev pub entries : Option Operand → ℕ
entries (Some operand.Long) = 2
entries other = 1
