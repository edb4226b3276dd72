use Rattle.et_history.proofs.NewTexts.{event_with_texts_reaches as proof}
use Rattle.et_history.proofs.object_laws.events_reach_what_they_make.Goals as goal

pub returns : goal.returns
returns c = proof
