use Rattle.et_asm.proofs.Sets.{named}
use Rattle.et_asm.proofs.laws.indices_name_entries.Goals as goal

pub returns : goal.returns
returns c = named
