use Rattle.et_state.proofs.Calls.{on_set_local as proof}
use Rattle.et_state.proofs.laws.set_local.Goals as goal

pub returns : goal.returns
returns c = proof
