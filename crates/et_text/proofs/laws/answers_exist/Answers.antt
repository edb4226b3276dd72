use Rattle.et_text.proofs.SomeAnswer.{answer_of}
use Rattle.et_text.proofs.laws.answers_exist.Goals as goal

pub returns : goal.returns
returns c = answer_of
