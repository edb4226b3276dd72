use Rattle.et_text.proofs.OneAnswer.{text_of_one}
use Rattle.et_text.proofs.laws.good_lists_differ.Goals as goal

pub returns : goal.returns
returns c = text_of_one
