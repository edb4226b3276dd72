use Rattle.et_history.proofs.soundness.Instructions.{row_sound as proof}
use Rattle.et_history.proofs.sound_laws.rows_keep_sound.Goals as goal

pub returns : goal.returns
returns c = proof
