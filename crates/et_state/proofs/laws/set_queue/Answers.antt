use Rattle.et_state.proofs.Calls.{on_set_queue as proof}
use Rattle.et_state.proofs.laws.set_queue.Goals as goal

pub returns : goal.returns
returns c = proof
