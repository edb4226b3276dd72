use Rattle.et_state.proofs.Calls.{on_take_pending as proof}
use Rattle.et_state.proofs.laws.take_pending.Goals as goal

pub returns : goal.returns
returns c = proof
