use Rattle.et_state.proofs.Calls.{on_make as proof}
use Rattle.et_state.proofs.laws.make.Goals as goal

pub returns : goal.returns
returns c = proof
