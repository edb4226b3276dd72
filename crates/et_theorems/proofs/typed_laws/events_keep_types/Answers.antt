use Rattle.et_theorems.proofs.typings.Told.{told_typed as proof}
use Rattle.et_theorems.proofs.typed_laws.events_keep_types.Goals as goal

pub returns : goal.returns
returns c = proof
