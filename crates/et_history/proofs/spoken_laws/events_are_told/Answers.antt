use Rattle.et_history.proofs.texts.Events.{event_is_told as proof}
use Rattle.et_history.proofs.spoken_laws.events_are_told.Goals as goal

pub returns : goal.returns
returns c = proof
