use Rattle.et_history.proofs.steps.SaysNames.{told_event as proof}
use Rattle.et_history.proofs.event_laws.events_are_told.Goals as goal

pub returns : goal.returns
returns c = proof
