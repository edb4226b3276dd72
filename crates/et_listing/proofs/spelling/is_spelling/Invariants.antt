use Rattle.std.proofs.Common.{◌≡◌, ◌-◌, ◌≤◌, length, drop}
use Rattle.et_listing.specs.Words.{is_spelling}
use Rattle.et_listing.proofs.spelling.is_spelling.Given as goal

abbrev pub invariant-loop-i : goal.invariant-loop-i
invariant-loop-i l = record {
  within : l.i ≤ length l.word;
  left : is_spelling (drop l.i l.word) ≡ is_spelling l.word;
}

abbrev pub decreases-loop-i : goal.decreases-loop-i
decreases-loop-i l = length l.word - l.i
