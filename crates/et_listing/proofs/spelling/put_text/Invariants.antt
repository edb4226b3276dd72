use Rattle.std.proofs.Common.{◌≡◌, ◌-◌, ◌≤◌, ◌++◌, length, drop}
use Rattle.et_listing.specs.Words.{unescaped}
use Rattle.et_listing.proofs.spelling.put_text.Given as goal

abbrev pub invariant-loop-i : goal.invariant-loop-i
invariant-loop-i l = record {
  within : l.i ≤ length l.word;
  put : l.out.items ++ unescaped (drop l.i l.word) ≡ l.initial.out.items ++ unescaped l.word;
}

abbrev pub decreases-loop-i : goal.decreases-loop-i
decreases-loop-i l = length l.word - l.i
