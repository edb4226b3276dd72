use Rattle.std.proofs.Common.{◌≡◌, ℕ, ◌<◌, length, take}
use Rattle.std.specs.List.{slice_index_or}
use Rattle.et_program.specs.Slots.{own_slots}
use Rattle.et_link.proofs.members.slots.own_slots.Given as goal

abbrev pub invariant-loop-field : goal.invariant-loop-field
invariant-loop-field l = record {
  size : length l.own.items ≡ l.count;
  slots : (k : ℕ) → k < l.count → slice_index_or l.own.items k 0 ≡ own_slots (take l.field-index l.fields) k;
}
