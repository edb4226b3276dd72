use Rattle.std.proofs.Common.{length}
use Rattle.et_pool.proofs.Shaped.{Walked}
use Rattle.et_pool.proofs.operand.parameter_kinds.Given as goal

abbrev pub invariant-types : goal.invariant-types
invariant-types l = Walked l.s l.rest l.kinds.items l.entries

abbrev pub decreases-types : goal.decreases-types
decreases-types l = length l.rest
