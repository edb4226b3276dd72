use Rattle.et_history.proofs.steps.MonitorRows.{event_keeps_monitors as proof}
use Rattle.et_history.proofs.event_laws.events_keep_monitors.Goals as goal

pub returns : goal.returns
returns c = proof
