use Rattle.et_state.proofs.Calls.{on_push as proof}
use Rattle.et_state.proofs.laws.push.Goals as goal

pub returns : goal.returns
returns c = proof
