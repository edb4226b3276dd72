use Rattle.std.proofs.Common.{length, ◌-◌, ◌≡◌, ◌≤◌, drop}
use Rattle.std.specs.Str.{bytes_eq}
use Rattle.et_pool.specs.Text.{units_of}
use Rattle.et_strings.proofs.decoding.spell_the_same.Given as goal

abbrev pub invariant-units : goal.invariant-units
invariant-units l = (l.at ≤ length l.a) × (l.there ≤ length l.b) × (bytes_eq (units_of (drop l.at l.a)) (units_of (drop l.there l.b)) ≡ bytes_eq (units_of l.a) (units_of l.b))

abbrev pub decreases-units : goal.decreases-units
decreases-units l = length l.a - l.at
