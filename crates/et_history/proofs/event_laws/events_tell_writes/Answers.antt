use Rattle.et_history.proofs.steps.SaysWrites.{event_tells_writes as proof}
use Rattle.et_history.proofs.event_laws.events_tell_writes.Goals as goal

pub returns : goal.returns
returns c = proof
