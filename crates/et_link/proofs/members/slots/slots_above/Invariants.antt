use Rattle.std.proofs.Common.{◌≡◌, ℕ, ◌<◌, length}
use Rattle.std.specs.Prelude.{sum_by}
use Rattle.std.specs.List.{slice_index_or}
use Rattle.et_hierarchy.specs.Ancestry.{ancestry_at}
use Rattle.et_link.proofs.members.slots.slots_above.Given as goal

abbrev pub invariant-loop-row : goal.invariant-loop-row
invariant-loop-row l = record {
  size : length l.above.items ≡ l.row-index;
  slots : (k : ℕ) → k < l.row-index → slice_index_or l.above.items k 0 ≡ sum_by (λ j. slice_index_or l.own j 0) (ancestry_at l.rows k).supers;
}
