use Rattle.et_state.proofs.Calls.{on_set_referent as proof}
use Rattle.et_state.proofs.laws.set_referent.Goals as goal

pub returns : goal.returns
returns c = proof
