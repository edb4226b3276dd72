use Rattle.et_hierarchy.proofs.Marks.{visits_no_option}
use Rattle.et_hierarchy.proofs.search.visit_above.Goals as goal

pub returns-in-None : goal.returns-in-None
returns-in-None c = visits_no_option c.args.above _ _ c.in-None.is
