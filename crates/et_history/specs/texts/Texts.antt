-- SOUND TEXTS after an event: where it is done, or the thread waits, those of the next state are sound.
use Rattle.et_program.specs.Entries.{Linked}
use Rattle.et_state.specs.State.{Kept}
use Rattle.et_state.specs.Outcome.{Outcome}
use Rattle.et_event.specs.SoundTexts.{HasSoundTexts}
use Rattle.et_history.specs.steps.Changing.{LeadsTo}

abbrev pub LeadsToSoundTexts : Linked → Outcome Kept → Type 0
LeadsToSoundTexts p o = LeadsTo (HasSoundTexts p) o
