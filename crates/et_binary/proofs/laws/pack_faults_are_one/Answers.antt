use Rattle.et_binary.proofs.OnePack.{one_fault}
use Rattle.et_binary.proofs.laws.pack_faults_are_one.Goals as goal

pub returns : goal.returns
returns c = one_fault
