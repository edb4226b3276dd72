use Rattle.et_history.proofs.Wholes.{tells_the_same, ends}
use Rattle.et_history.proofs.laws.histories_tell_the_same.Goals as goal

pub returns-clause-same : goal.returns-clause-same
returns-clause-same c = tells_the_same

pub returns-clause-ends : goal.returns-clause-ends
returns-clause-ends c = ends
