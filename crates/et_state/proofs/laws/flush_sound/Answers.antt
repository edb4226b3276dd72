use Rattle.et_state.proofs.Enqueued.{sound_flushed as proof}
use Rattle.et_state.proofs.laws.flush_sound.Goals as goal

pub returns : goal.returns
returns c = proof
