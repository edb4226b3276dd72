use Rattle.et_code.proofs.Keeping.{kept_code}
use Rattle.et_code.proofs.laws.kept_code.Goals as goal

pub returns : goal.returns
returns c = kept_code
