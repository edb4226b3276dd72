use Rattle.et_history.proofs.programs.Promises.{keep_rules as proof}
use Rattle.et_history.proofs.program_laws.files_keep_rules.Goals as goal

pub returns : goal.returns
returns c = proof
