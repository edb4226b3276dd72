use Rattle.et_history.proofs.steps.SoundStates.{event_leads_to_sound}
use Rattle.et_history.proofs.event_laws.events_lead_to_sound_states.Goals as goal

pub returns : goal.returns
returns c p s t sound unended may few = event_leads_to_sound p s t sound few unended may
