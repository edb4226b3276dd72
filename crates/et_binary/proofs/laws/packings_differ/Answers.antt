use Rattle.et_binary.proofs.OnePack.{one_record}
use Rattle.et_binary.proofs.laws.packings_differ.Goals as goal

pub returns : goal.returns
returns c = one_record
