use Rattle.et_state.proofs.Pasts.{past_on_way as proof}
use Rattle.et_state.proofs.laws.past.Goals as goal

pub returns : goal.returns
returns c = proof
