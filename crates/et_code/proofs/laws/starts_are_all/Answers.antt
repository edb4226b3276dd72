use Rattle.et_code.proofs.Starting.{starts_are_all}
use Rattle.et_code.proofs.laws.starts_are_all.Goals as goal

pub returns : goal.returns
returns c = starts_are_all
