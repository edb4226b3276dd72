use Rattle.et_hierarchy.specs.Links.{parents_of}
use Rattle.et_hierarchy.specs.Sorting.{AreSortedBefore}
use Rattle.et_hierarchy.proofs.sorting.count_passed.Given as goal

abbrev pub invariant-loop-i : goal.invariant-loop-i
invariant-loop-i l = AreSortedBefore l.done (parents_of l.links) l.from → AreSortedBefore l.done (parents_of l.links) l.i
