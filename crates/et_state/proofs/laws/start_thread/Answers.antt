use Rattle.et_state.proofs.Calls.{on_start_thread as proof}
use Rattle.et_state.proofs.laws.start_thread.Goals as goal

pub returns : goal.returns
returns c = proof
