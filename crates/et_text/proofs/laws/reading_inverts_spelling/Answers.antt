use Rattle.et_text.proofs.LineKinds.{line_takes, line_again_at}
use Rattle.et_text.proofs.laws.reading_inverts_spelling.Goals as goal

pub returns : goal.returns
returns c = λ line bytes. (line_takes bytes line, line_again_at bytes line)
