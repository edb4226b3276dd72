use Rattle.et_state.proofs.Calls.{on_lose as proof}
use Rattle.et_state.proofs.laws.lose.Goals as goal

pub returns : goal.returns
returns c = proof
