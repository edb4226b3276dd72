use Rattle.et_binary.proofs.Puts.{good_written}
use Rattle.et_binary.proofs.laws.records_are_packs.Goals as goal

pub returns : goal.returns
returns c = good_written
