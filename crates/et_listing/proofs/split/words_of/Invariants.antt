use Rattle.std.proofs.Common.{◌≡◌, ◌≤◌, ◌++◌, drop, filter}
use Rattle.et_listing.specs.Words.{pieces, words, is_some_text}
use Rattle.et_listing.proofs.Pieces.{Free}
use Rattle.et_listing.proofs.split.words_of.Given as goal

abbrev pub invariant-loop-i : goal.invariant-loop-i
invariant-loop-i l = record {
  start : l.start ≤ l.i;
  free : Free 32 l.line l.start l.i;
  found : l.words.items ++ filter is_some_text (pieces 32 (drop l.start l.line)) ≡ words l.line;
}
