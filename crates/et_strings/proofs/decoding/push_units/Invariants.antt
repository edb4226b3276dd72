use Rattle.std.proofs.Common.{length, ◌-◌, ◌≡◌, ◌≤◌, ◌++◌, drop}
use Rattle.et_pool.specs.Text.{units_of}
use Rattle.et_strings.proofs.decoding.push_units.Given as goal

abbrev pub invariant-units : goal.invariant-units
invariant-units l = (l.at ≤ length l.s) × (l.units.items ++ units_of (drop l.at l.s) ≡ l.fn.units.items ++ units_of l.s)

abbrev pub decreases-units : goal.decreases-units
decreases-units l = length l.s - l.at
