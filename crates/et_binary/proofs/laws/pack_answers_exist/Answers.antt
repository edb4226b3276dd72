use Rattle.et_binary.proofs.SomePack.{answer_of}
use Rattle.et_binary.proofs.laws.pack_answers_exist.Goals as goal

pub returns : goal.returns
returns c = answer_of
