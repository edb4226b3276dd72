use Rattle.et_binary.proofs.Portions.{shows_more}
use Rattle.et_binary.proofs.laws.shown_pack_faults_stay.Goals as goal

pub returns : goal.returns
returns c = shows_more
