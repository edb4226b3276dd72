use Rattle.et_asm.proofs.Slots.{spelled, finds}
use Rattle.et_asm.proofs.laws.pools_are_spelled.Goals as goal

pub returns-clause-bytes : goal.returns-clause-bytes
returns-clause-bytes c = spelled

pub returns-clause-entries : goal.returns-clause-entries
returns-clause-entries c = finds
