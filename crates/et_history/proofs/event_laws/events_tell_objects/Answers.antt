use Rattle.et_history.proofs.steps.SaysRecords.{event_tells as proof}
use Rattle.et_history.proofs.event_laws.events_tell_objects.Goals as goal

pub returns : goal.returns
returns c = proof
