use Rattle.et_binary.proofs.OnePack.{no_fault}
use Rattle.et_binary.proofs.laws.good_packs_have_no_fault.Goals as goal

pub returns : goal.returns
returns c = no_fault
