use Rattle.et_event.proofs.Keeping.{left_is}
use Rattle.et_event.proofs.monitor_laws.left.Goals as goal

pub returns : goal.returns
returns c = left_is
