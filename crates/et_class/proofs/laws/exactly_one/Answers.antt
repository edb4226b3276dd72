use Rattle.et_class.proofs.OneClass.{exactly_one}
use Rattle.et_class.proofs.laws.exactly_one.Goals as goal

pub returns : goal.returns
returns c = exactly_one
