use Rattle.std.proofs.Common.{◌+◌, length}
use Rattle.et_hierarchy.specs.Search.{unmarked}
use Rattle.et_hierarchy.proofs.Marks.{Searching}
use Rattle.et_hierarchy.proofs.search.ancestors.Given as goal

abbrev pub invariant-loop-u : goal.invariant-loop-u
invariant-loop-u l = Searching l.table l.class l.marks.items l.work.items

abbrev pub decreases-loop-u : goal.decreases-loop-u
decreases-loop-u l = unmarked l.marks.items + length l.work.items
