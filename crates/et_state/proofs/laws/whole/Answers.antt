use Rattle.et_state.proofs.Wholes.{legal_whole as proof}
use Rattle.et_state.proofs.laws.whole.Goals as goal

pub returns : goal.returns
returns c = proof
