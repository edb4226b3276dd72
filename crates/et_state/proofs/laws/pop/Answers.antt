use Rattle.et_state.proofs.Calls.{on_pop as proof}
use Rattle.et_state.proofs.laws.pop.Goals as goal

pub returns : goal.returns
returns c = proof
