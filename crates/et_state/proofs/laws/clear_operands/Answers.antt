use Rattle.et_state.proofs.Calls.{on_clear_operands as proof}
use Rattle.et_state.proofs.laws.clear_operands.Goals as goal

pub returns : goal.returns
returns c = proof
