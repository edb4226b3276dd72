use Rattle.et_state.proofs.Calls.{on_intern as proof}
use Rattle.et_state.proofs.laws.intern.Goals as goal

pub returns : goal.returns
returns c = proof
