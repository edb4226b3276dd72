use Rattle.std.proofs.Common.{◌≡◌, ◌≤◌, drop}
use Rattle.et_command.specs.Numbers.{spelled_number}
use Rattle.et_command.proofs.NumberLemmas.{onto}
use Rattle.et_command.proofs.numbers.spelled.Given as goal

abbrev pub invariant-digits : goal.invariant-digits
invariant-digits l = (onto l.number (drop l.digit-index l.digits) ≡ spelled_number l.digits) × (l.number ≤ l.high)
