use Rattle.et_state.proofs.UnderWay.{law_guest as proof}
use Rattle.et_state.proofs.laws.guest.Goals as goal

pub returns : goal.returns
returns c = proof
