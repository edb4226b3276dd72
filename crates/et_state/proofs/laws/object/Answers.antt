use Rattle.et_state.proofs.UnderWay.{law_object as proof}
use Rattle.et_state.proofs.laws.object.Goals as goal

pub returns : goal.returns
returns c = proof
