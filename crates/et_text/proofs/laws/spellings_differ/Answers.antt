use Rattle.et_text.proofs.LineKinds.{one_line}
use Rattle.et_text.proofs.laws.spellings_differ.Goals as goal

pub returns : goal.returns
returns c = one_line
