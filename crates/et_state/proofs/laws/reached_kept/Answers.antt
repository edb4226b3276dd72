use Rattle.et_state.proofs.Pasts.{reached_kept as proof}
use Rattle.et_state.proofs.laws.reached_kept.Goals as goal

pub returns : goal.returns
returns c = proof
