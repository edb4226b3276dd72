use Rattle.std.proofs.Common.{length, ◌-◌, ◌≡◌, ◌≤◌, drop}
use Rattle.std.specs.Prelude.{slice_get}
use Rattle.et_pool.specs.Text.{units_of}
use Rattle.et_strings.proofs.decoding.unit_at.Given as goal

abbrev pub invariant-units : goal.invariant-units
invariant-units l = (l.at ≤ length l.s) × (slice_get (units_of (drop l.at l.s)) l.left ≡ slice_get (units_of l.s) l.index)

abbrev pub decreases-units : goal.decreases-units
decreases-units l = length l.s - l.at
