use Rattle.std.proofs.Common.{length, ◌-◌, ◌≡◌, ◌≤◌, ◌++◌, drop}
use Rattle.et_event.specs.TextRows.{written_units}
use Rattle.et_strings.proofs.printing.push_written.Given as goal

abbrev pub invariant-chars : goal.invariant-chars
invariant-chars l = (l.at ≤ length l.units) × (l.out.items ++ written_units (drop l.at l.units) ≡ l.fn.out.items ++ written_units l.units)

abbrev pub decreases-chars : goal.decreases-chars
decreases-chars l = length l.units - l.at
