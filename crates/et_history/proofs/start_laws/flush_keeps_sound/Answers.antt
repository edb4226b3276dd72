use Rattle.et_history.proofs.programs.Flushing.{sound_left as proof}
use Rattle.et_history.proofs.start_laws.flush_keeps_sound.Goals as goal

pub returns : goal.returns
returns c = proof
