use Rattle.et_state.proofs.Calls.{on_set_entered as proof}
use Rattle.et_state.proofs.laws.set_entered.Goals as goal

pub returns : goal.returns
returns c = proof
