use Rattle.std.proofs.Common.{◌≡◌, ◌-◌, ◌+◌, ◌≤◌, length, drop}
use Rattle.et_listing.specs.Words.{unescaped}
use Rattle.et_listing.proofs.spelling.text_len.Given as goal

abbrev pub invariant-loop-i : goal.invariant-loop-i
invariant-loop-i l = record {
  within : l.i ≤ length l.word;
  few : l.count ≤ l.i;
  counted : l.count + length (unescaped (drop l.i l.word)) ≡ length (unescaped l.word);
}

abbrev pub decreases-loop-i : goal.decreases-loop-i
decreases-loop-i l = length l.word - l.i
