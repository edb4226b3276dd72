use Rattle.et_state.proofs.Calls.{on_drop_frame as proof}
use Rattle.et_state.proofs.laws.drop_frame.Goals as goal

pub returns : goal.returns
returns c = proof
