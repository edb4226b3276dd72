use Rattle.std.proofs.Common.{◌≡◌, ◌++◌, None, length}
use Rattle.et_text.proofs.reader.TextReader.feed.Given as goal

abbrev pub invariant-lines : goal.invariant-lines
invariant-lines l = record {
  unharmed : l.fn.self.fault ≡ None;
  still : l.self.fault ≡ None;
  bytes : l.self.bytes ++ l.rest ≡ l.fn.self.bytes ++ l.piece;
}

abbrev pub decreases-lines : goal.decreases-lines
decreases-lines l = length l.rest
