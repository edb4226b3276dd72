use Rattle.std.proofs.Common.{◌≡◌, ◌++◌}
use Rattle.et_io.specs.Sink.{TakesUpTo}
use Rattle.et_loop.proofs.Putting.{lines_up_to}
use Rattle.et_loop.proofs.flushes.put_deaths.Given as goal

abbrev pub invariant-put : goal.invariant-put
invariant-put g l = record {
  taken : TakesUpTo (g.O.Sink.taken l.fn.sink) (g.O.Sink.taken l.sink) (l.fn.buffer.items ++ lines_up_to l.format l.event l.deaths l.death-index) l.buffer.items;
  faults : g.O.Sink.faults l.sink ≡ g.O.Sink.faults l.fn.sink;
}
