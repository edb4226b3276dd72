use Rattle.et_link.proofs.Unique.{answers_one}
use Rattle.et_link.proofs.laws.answers_are_one.Goals as goal

pub returns : goal.returns
returns c = answers_one
