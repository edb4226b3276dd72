use Rattle.et_state.proofs.UnderWay.{finish as proof}
use Rattle.et_state.proofs.laws.end.Goals as goal

pub returns : goal.returns
returns c = proof
