use Rattle.et_event.proofs.FrameRows.{switch as proof}
use Rattle.et_event.proofs.place_laws.switch.Goals as goal

pub returns : goal.returns
returns c = proof
