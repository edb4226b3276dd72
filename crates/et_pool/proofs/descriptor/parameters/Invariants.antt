use Rattle.std.proofs.Common.{length}
use Rattle.et_pool.proofs.Types.{Behind}
use Rattle.et_pool.proofs.descriptor.parameters.Given as goal

abbrev pub invariant-types : goal.invariant-types
invariant-types l = Behind l.s l.rest l.entries l.floating

abbrev pub decreases-types : goal.decreases-types
decreases-types l = length l.rest
