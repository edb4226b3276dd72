use Rattle.std.proofs.Common.{length, ◌≡◌, ◌≤◌, drop}
use Rattle.std.specs.Str.{bytes_eq}
use Rattle.et_pool.specs.Text.{units_of}
use Rattle.et_strings.proofs.decoding.spells.Given as goal

abbrev pub invariant-units : goal.invariant-units
invariant-units l = (l.at ≤ length l.s) × (bytes_eq (units_of (drop l.at l.s)) (drop l.unit-index l.units) ≡ bytes_eq (units_of l.s) l.units)
