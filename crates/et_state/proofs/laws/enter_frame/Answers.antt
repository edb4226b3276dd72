use Rattle.et_state.proofs.Calls.{on_enter_frame as proof}
use Rattle.et_state.proofs.laws.enter_frame.Goals as goal

pub returns : goal.returns
returns c = proof
