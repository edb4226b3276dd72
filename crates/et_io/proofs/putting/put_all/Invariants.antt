use Rattle.std.proofs.Common.{◌≡◌, [], length}
use Rattle.et_io.specs.Sink.{TakesUpTo}
use Rattle.et_io.proofs.putting.put_all.Given as goal

abbrev pub invariant-loop-rest : goal.invariant-loop-rest
invariant-loop-rest g l =
    TakesUpTo (g.S.Sink.taken l.fn.sink) (g.S.Sink.taken l.sink) l.piece l.rest
    × (g.S.Sink.faults l.sink ≡ g.S.Sink.faults l.fn.sink)
    × (l.piece ≡ [] → l.sink ≡ l.fn.sink)

abbrev pub decreases-loop-rest : goal.decreases-loop-rest
decreases-loop-rest g l = length l.rest
