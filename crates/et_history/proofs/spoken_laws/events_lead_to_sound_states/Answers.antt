use Rattle.et_history.proofs.texts.Events.{event_with_texts_leads_to_sound as proof}
use Rattle.et_history.proofs.spoken_laws.events_lead_to_sound_states.Goals as goal

pub returns : goal.returns
returns c = proof
