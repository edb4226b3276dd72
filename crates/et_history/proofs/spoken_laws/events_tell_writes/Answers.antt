use Rattle.et_history.proofs.texts.Writing.{event_tells_other_writes as proof}
use Rattle.et_history.proofs.spoken_laws.events_tell_writes.Goals as goal

pub returns : goal.returns
returns c = proof
