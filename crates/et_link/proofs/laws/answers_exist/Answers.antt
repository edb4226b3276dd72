use Rattle.et_link.proofs.Exists.{answer}
use Rattle.et_link.proofs.laws.answers_exist.Goals as goal

pub returns : goal.returns
returns c = answer
