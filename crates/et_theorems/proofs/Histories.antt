-- The history of a run that ended is one of which the laws on histories speak.
use Rattle.et_history.specs.Histories.{IsHistory}
use Rattle.et_theorems.specs.traces.Snapshots.{IsEndedRun}
use Rattle.et_theorems.specs.Runs.{Run, picks_of}

pub history_of : (r : Run) → IsEndedRun r.reached r.program r.options (picks_of r) r.last r.end → IsHistory r.reached r.program r.options
history_of r ended = record { decides = ended.decides; run = ended.program.run; options_are = ended.options_are }
