-- Writing the heap for a frame.
use Rattle.std.specs.Prelude.{ℕ, Bool, true, false, drop, take}
use Rattle.et_heap.specs.Objects.{Objects, object_at, with_object_at, with_slot}
use Rattle.et_heap.specs.Refs.{refs_of}
use Rattle.et_state.specs.Running.{RunningState}
use Rattle.et_event.specs.declared.rows.HeapRow.{HeapRow}
use Rattle.et_event.specs.declared.rows.HeapRow.TheVariants as row
use Rattle.et_refs.specs.declared.doing.changes.Store.{Store}

-- the rows that write a slot of an object
abbrev pub is_write_row : HeapRow → Bool
is_write_row row.PutField = true
is_write_row (row.StoreElement kind) = true
is_write_row other = false

-- the objects, after it was written
abbrev pub written : Store → Objects → Objects
written x heap = with_object_at heap x.object (with_slot x.slot x.value (object_at heap x.object))

-- .. and the frame that runs, after the operands were taken
abbrev pub taken_for : Store → ℕ → RunningState → RunningState
taken_for x next r = record {
  frame = record r.frame { pc = next; operands = drop x.taken r.frame.operands };
  below = r.below;
  lost = refs_of (take x.taken r.frame.operands);
}
