use Rattle.et_refs.proofs.Legal.{arrays_legal}
use Rattle.et_refs.proofs.laws.arrays.Goals as goal

pub returns : goal.returns
returns c = arrays_legal
