use Rattle.std.proofs.Common.{arith, ◌<◌, length}
use Rattle.std.proofs.lemmas.List.{take_more}
use Rattle.et_hierarchy.proofs.Marks.{visits_join}
use Rattle.et_hierarchy.proofs.search.visit_all.Goals as goal

pub loop-o-preserved : goal.loop-o-preserved
loop-o-preserved c =
    let lt : c.loop-o.o-index < length c.args.classes.now = omega arith in
    rw (take_more c.args.classes.now c.loop-o.o-index 0 lt) (visits_join _ _ _ _ _ _ _ _ c.loop-o.invariant c.in_ok-visit.ensures)
