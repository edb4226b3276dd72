use Rattle.std.proofs.Common.{◌≡◌, drop}
use Rattle.et_snapshot.specs.Heap.{lists_of, rows_in}
use Rattle.et_snapshot.proofs.Pieces.{Puts}
use Rattle.et_snapshot.proofs.snapshot.put_objects.Given as goal

abbrev pub invariant-loop-entry : goal.invariant-loop-entry
invariant-loop-entry g l = record {
  puts : Puts (rows_in (lists_of l.names)) l.entries (drop l.entry-index l.entries) (g.O.Sink.taken l.fn.sink) (g.O.Sink.taken l.sink) l.fn.text.items l.text.items;
  faults : g.O.Sink.faults l.sink ≡ g.O.Sink.faults l.fn.sink;
}
