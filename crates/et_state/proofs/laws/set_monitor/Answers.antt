use Rattle.et_state.proofs.Calls.{on_set_monitor as proof}
use Rattle.et_state.proofs.laws.set_monitor.Goals as goal

pub returns : goal.returns
returns c = proof
