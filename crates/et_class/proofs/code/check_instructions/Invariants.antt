use Rattle.std.proofs.Common.{length, ◌-◌}
use Rattle.et_class.proofs.Walked.{Walked}
use Rattle.et_class.proofs.code.check_instructions.Given as goal

abbrev pub invariant-instructions : goal.invariant-instructions
invariant-instructions l = Walked l.pool.slots l.place l.code l.fn.first l.found l.pc

abbrev pub decreases-instructions : goal.decreases-instructions
decreases-instructions l = length l.code - l.pc
