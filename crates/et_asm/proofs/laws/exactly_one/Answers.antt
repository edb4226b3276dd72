use Rattle.et_base.proofs.Firsts.{exactly_one}
use Rattle.et_asm.specs.Listings.{marks_of}
use Rattle.et_asm.proofs.laws.exactly_one.Goals as goal

pub returns : goal.returns
returns c = λ text. exactly_one (marks_of text)
