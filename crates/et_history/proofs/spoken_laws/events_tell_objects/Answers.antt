use Rattle.et_history.proofs.texts.Events.{event_tells_objects as proof}
use Rattle.et_history.proofs.spoken_laws.events_tell_objects.Goals as goal

pub returns : goal.returns
returns c = proof
