use Rattle.et_base.proofs.Firsts.{found_is_first}
use Rattle.et_base.proofs.laws.found_is_first.Goals as goal

pub returns : goal.returns
returns c = found_is_first
