use Rattle.et_text.proofs.Pieces.{shows_more}
use Rattle.et_text.proofs.laws.shown_faults_stay.Goals as goal

pub returns : goal.returns
returns c = shows_more
