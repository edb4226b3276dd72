use Rattle.std.proofs.Common.{◌≡◌, ℕ, ◌<◌, [], length}
use Rattle.std.specs.List.{slice_index_or}
use Rattle.et_program.specs.Slots.{own_slots}
use Rattle.et_link.proofs.members.slots.boot_slots.Given as goal

abbrev pub invariant-classes : goal.invariant-classes
invariant-classes l = record {
  size : length l.own.items ≡ l.k;
  slots : (j : ℕ) → j < l.k → slice_index_or l.own.items j 0 ≡ own_slots [] j;
}
