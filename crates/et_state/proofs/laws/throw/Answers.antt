use Rattle.et_state.proofs.Calls.{on_throw as proof}
use Rattle.et_state.proofs.laws.throw.Goals as goal

pub returns : goal.returns
returns c = proof
