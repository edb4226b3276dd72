use Rattle.et_link.specs.Crossing.{crosses, AnswersLeast}
use Rattle.et_link.proofs.members.crossing.first_crossing.Given as goal

abbrev pub invariant-loop-method : goal.invariant-loop-method
invariant-loop-method l = AnswersLeast (crosses l.set l.rows l.methods) l.methods l.method-index l.found
