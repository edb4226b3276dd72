use Rattle.et_state.proofs.Enqueued.{flush_ties as proof}
use Rattle.et_state.proofs.laws.flush_ties.Goals as goal

pub returns : goal.returns
returns c = proof
