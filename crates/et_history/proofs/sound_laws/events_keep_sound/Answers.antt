use Rattle.et_history.proofs.soundness.Turning.{event_sound}
use Rattle.et_history.proofs.sound_laws.events_keep_sound.Goals as goal

pub returns : goal.returns
returns c p s t sound unended may few = event_sound p s t sound few unended may
