use Rattle.std.proofs.Common.{◌≡◌, ◌^◌, ◌-◌, min, take}
use Rattle.et_listing.specs.Words.{magnitude}
use Rattle.et_listing.proofs.operand.magnitude.Given as goal

abbrev pub invariant-loop-digit : goal.invariant-loop-digit
invariant-loop-digit l = l.value ≡ min (magnitude (take l.digit-index l.digits)) (2 ^ 64 - 1)
