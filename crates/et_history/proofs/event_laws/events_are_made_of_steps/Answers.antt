use Rattle.et_history.proofs.steps.Turns.{event_leads as proof}
use Rattle.et_history.proofs.event_laws.events_are_made_of_steps.Goals as goal

pub returns : goal.returns
returns c = proof
