use Rattle.et_history.proofs.texts.Events.{event_with_texts_keeps_monitors as proof}
use Rattle.et_history.proofs.spoken_laws.events_keep_monitors.Goals as goal

pub returns : goal.returns
returns c = proof
