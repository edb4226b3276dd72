use Rattle.et_history.proofs.texts.TextsStay.{event_keeps_texts_sound}
use Rattle.et_history.proofs.spoken_laws.texts_stay_sound.Goals as goal

pub returns : goal.returns
returns c p s t sound unended may texts = event_keeps_texts_sound p s t sound texts unended may
