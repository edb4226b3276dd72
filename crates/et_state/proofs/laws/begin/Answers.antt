use Rattle.et_state.proofs.Calls.{on_begin_event as proof}
use Rattle.et_state.proofs.laws.begin.Goals as goal

pub returns : goal.returns
returns c = proof
