use Rattle.std.proofs.Common.{◌≡◌, ◌≤◌, ◌++◌, drop}
use Rattle.et_listing.specs.Words.{pieces, lines, without_last_empty}
use Rattle.et_listing.proofs.Pieces.{Free}
use Rattle.et_listing.proofs.split.lines_of.Given as goal

abbrev pub invariant-loop-i : goal.invariant-loop-i
invariant-loop-i l = record {
  start : l.start ≤ l.i;
  free : Free 10 l.text l.start l.i;
  found : l.lines.items ++ without_last_empty (pieces 10 (drop l.start l.text)) ≡ lines l.text;
}
