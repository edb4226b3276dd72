use Rattle.et_state.proofs.Calls.{on_enter_over as proof}
use Rattle.et_state.proofs.laws.enter_over.Goals as goal

pub returns : goal.returns
returns c = proof
