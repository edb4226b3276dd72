use Rattle.et_base.proofs.Firsts.{exactly_one}
use Rattle.et_base.proofs.laws.exactly_one.Goals as goal

pub returns : goal.returns
returns c = exactly_one
