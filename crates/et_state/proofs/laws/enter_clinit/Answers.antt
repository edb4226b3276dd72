use Rattle.et_state.proofs.Calls.{on_enter_clinit as proof}
use Rattle.et_state.proofs.laws.enter_clinit.Goals as goal

pub returns : goal.returns
returns c = proof
