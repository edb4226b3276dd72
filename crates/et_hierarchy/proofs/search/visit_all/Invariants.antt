use Rattle.std.proofs.Common.{take}
use Rattle.et_hierarchy.specs.Search.{VisitsLinks}
use Rattle.et_hierarchy.proofs.search.visit_all.Given as goal

abbrev pub invariant-loop-o : goal.invariant-loop-o
invariant-loop-o l = VisitsLinks (take l.o-index l.classes) l.initial.marks.items l.initial.work.items l.marks.items l.work.items
