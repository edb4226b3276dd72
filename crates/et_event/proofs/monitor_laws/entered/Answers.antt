use Rattle.et_event.proofs.Keeping.{entered_is}
use Rattle.et_event.proofs.monitor_laws.entered.Goals as goal

pub returns : goal.returns
returns c = entered_is
