use Rattle.et_text.proofs.OneAnswer.{no_fault}
use Rattle.et_text.proofs.laws.good_texts_have_no_fault.Goals as goal

pub returns : goal.returns
returns c = no_fault
