use Rattle.et_state.proofs.Calls.{on_set_slot as proof}
use Rattle.et_state.proofs.laws.set_slot.Goals as goal

pub returns : goal.returns
returns c = proof
