use Rattle.et_refs.proofs.Finishing.{opened, pushed, popped, whole, next_fits}
use Rattle.et_refs.proofs.laws.finishing.Goals as goal

pub returns : goal.returns
returns c = record { opened = opened; pushed = pushed; popped = popped; whole = whole; fits = next_fits }
