use Rattle.std.proofs.Common.{length}
use Rattle.et_hierarchy.proofs.DistinctLemmas.{IsUnmarking}
use Rattle.et_hierarchy.proofs.distinct.unmark.Given as goal

abbrev pub invariant-loop-class : goal.invariant-loop-class
invariant-loop-class l = IsUnmarking l.classes l.class-index (length l.fn.marks.items) l.marks.items
