use Rattle.et_event.proofs.Keeping.{monitor_on_way}
use Rattle.et_event.proofs.monitor_laws.on_way.Goals as goal

pub returns : goal.returns
returns c = monitor_on_way
