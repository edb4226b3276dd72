use Rattle.et_history.proofs.programs.Above.{knows_interfaces as proof}
use Rattle.et_history.proofs.program_laws.programs_know_interfaces.Goals as goal

pub returns : goal.returns
returns c = proof
