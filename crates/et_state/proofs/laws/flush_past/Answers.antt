use Rattle.et_state.proofs.Enqueued.{past_flushed as proof}
use Rattle.et_state.proofs.laws.flush_past.Goals as goal

pub returns : goal.returns
returns c = proof
