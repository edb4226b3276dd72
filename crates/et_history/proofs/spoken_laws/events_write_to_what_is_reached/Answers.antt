use Rattle.et_history.proofs.texts.Events.{event_writes_to_what_is_reached as proof}
use Rattle.et_history.proofs.spoken_laws.events_write_to_what_is_reached.Goals as goal

pub returns : goal.returns
returns c = proof
