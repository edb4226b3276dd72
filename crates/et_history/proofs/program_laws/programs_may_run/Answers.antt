use Rattle.et_history.proofs.programs.Promises.{keeps_promises as proof}
use Rattle.et_history.proofs.program_laws.programs_may_run.Goals as goal

pub returns : goal.returns
returns c = proof
