use Rattle.et_history.proofs.steps.SaysReached.{event_writes_to_reached as proof}
use Rattle.et_history.proofs.event_laws.events_write_to_what_is_reached.Goals as goal

pub returns : goal.returns
returns c = proof
