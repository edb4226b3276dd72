use Rattle.et_state.proofs.Calls.{on_set_static as proof}
use Rattle.et_state.proofs.laws.set_static.Goals as goal

pub returns : goal.returns
returns c = proof
