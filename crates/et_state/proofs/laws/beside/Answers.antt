use Rattle.et_state.proofs.UnderWay.{law_beside as proof}
use Rattle.et_state.proofs.laws.beside.Goals as goal

pub returns : goal.returns
returns c = proof
