use Rattle.et_history.proofs.programs.Starting.{start_sound as proof}
use Rattle.et_history.proofs.start_laws.first_state_is_sound.Goals as goal

pub returns : goal.returns
returns c = proof
