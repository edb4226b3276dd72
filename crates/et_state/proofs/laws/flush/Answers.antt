use Rattle.et_state.proofs.Flushes.{flush_is as proof}
use Rattle.et_state.proofs.laws.flush.Goals as goal

pub returns : goal.returns
returns c = proof
