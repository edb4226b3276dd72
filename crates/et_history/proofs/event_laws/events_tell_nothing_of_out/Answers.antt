use Rattle.et_history.proofs.steps.SaysReached.{event_tells_beside_out as proof}
use Rattle.et_history.proofs.event_laws.events_tell_nothing_of_out.Goals as goal

pub returns : goal.returns
returns c = proof
