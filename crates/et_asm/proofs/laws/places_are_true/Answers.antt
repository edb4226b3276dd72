use Rattle.et_asm.proofs.Lengths.{code_length, code_splits}
use Rattle.et_asm.proofs.laws.places_are_true.Goals as goal

pub returns-clause-places : goal.returns-clause-places
returns-clause-places c = code_length

pub returns-clause-begins : goal.returns-clause-begins
returns-clause-begins c = code_splits
