use Rattle.std.proofs.Common.{◌≡◌, List, length}
use Rattle.et_base.specs.declared.line.TraceLine.{TraceLine}
use Rattle.et_convert.specs.Rewriting.{AreLeft, HasLines}
use Rattle.et_convert.proofs.LinesLeft.{ArePutTo}
use Rattle.et_convert.proofs.rewriting.put_rewritten.Given as goal

abbrev pub invariant-lines : goal.invariant-lines
invariant-lines g l = record {
  has : HasLines l.format l.rest;
  put : (lines : List TraceLine) → AreLeft l.format lines l.bytes → ArePutTo l.format lines l.rest (g.O.Sink.taken l.fn.sink) (g.O.Sink.taken l.sink) l.gathered.items;
  faults : g.O.Sink.faults l.sink ≡ g.O.Sink.faults l.fn.sink;
}

abbrev pub decreases-lines : goal.decreases-lines
decreases-lines g l = length l.rest
