use Rattle.et_state.proofs.Calls.{on_set_pc as proof}
use Rattle.et_state.proofs.laws.set_pc.Goals as goal

pub returns : goal.returns
returns c = proof
