use Rattle.et_state.proofs.Calls.{on_set_class_state as proof}
use Rattle.et_state.proofs.laws.set_class_state.Goals as goal

pub returns : goal.returns
returns c = proof
