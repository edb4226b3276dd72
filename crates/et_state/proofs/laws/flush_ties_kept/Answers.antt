use Rattle.et_state.proofs.Enqueued.{ties_kept as proof}
use Rattle.et_state.proofs.laws.flush_ties_kept.Goals as goal

pub returns : goal.returns
returns c = proof
