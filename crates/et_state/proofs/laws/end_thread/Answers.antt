use Rattle.et_state.proofs.Calls.{on_end_thread as proof}
use Rattle.et_state.proofs.laws.end_thread.Goals as goal

pub returns : goal.returns
returns c = proof
