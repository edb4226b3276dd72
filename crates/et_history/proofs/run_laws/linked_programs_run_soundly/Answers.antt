use Rattle.et_history.proofs.Runs.{sound_run}
use Rattle.et_history.proofs.run_laws.linked_programs_run_soundly.Goals as goal

pub returns : goal.returns
returns c = sound_run
