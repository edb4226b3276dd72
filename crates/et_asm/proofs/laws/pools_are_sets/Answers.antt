use Rattle.et_asm.proofs.Sets.{sets}
use Rattle.et_asm.proofs.laws.pools_are_sets.Goals as goal

pub returns : goal.returns
returns c = sets
