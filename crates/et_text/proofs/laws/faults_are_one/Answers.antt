use Rattle.et_text.proofs.OneAnswer.{one_fault}
use Rattle.et_text.proofs.laws.faults_are_one.Goals as goal

pub returns : goal.returns
returns c = one_fault
