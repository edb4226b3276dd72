use Rattle.std.proofs.Common.{◌≡◌, ◌≤◌, ◌^◌, ◌*◌, ◌+◌, length}
use Rattle.et_text.specs.Reading.{number_after}
use Rattle.et_text.proofs.reading.number_after.Given as goal

abbrev pub invariant-digits : goal.invariant-digits
invariant-digits l = record {
  value : number_after l.n l.rest ≡ number_after l.first l.bytes;
  small : l.n ≤ 10 * 2 ^ 40 + 9;
}

abbrev pub decreases-digits : goal.decreases-digits
decreases-digits l = length l.rest
