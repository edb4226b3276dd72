use Rattle.std.proofs.Common.{◌-◌, []}
use Rattle.et_hierarchy.specs.Sorting.{GrowsSorted, placed_count}
use Rattle.et_hierarchy.proofs.sorting.sort.Given as goal

abbrev pub invariant-turns : goal.invariant-turns
invariant-turns l = GrowsSorted l.table [] l.sorting

abbrev pub decreases-turns : goal.decreases-turns
decreases-turns l = placed_count l.sorting - l.sorting.next
