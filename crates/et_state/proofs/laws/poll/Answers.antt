use Rattle.et_state.proofs.Calls.{on_poll as proof}
use Rattle.et_state.proofs.laws.poll.Goals as goal

pub returns : goal.returns
returns c = proof
