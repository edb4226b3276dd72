use Rattle.std.proofs.Common.{◌≡◌}
use Rattle.et_snapshot.specs.Heap.{row_of}
use Rattle.et_snapshot.proofs.Pieces.{Puts}
use Rattle.et_snapshot.proofs.snapshot.put_slots.Given as goal

abbrev pub invariant-loop-slot : goal.invariant-loop-slot
invariant-loop-slot g l = record {
  puts : Puts (row_of l.owner) l.slots.entries l.slot-iterator (g.O.Sink.taken l.fn.sink) (g.O.Sink.taken l.sink) l.fn.text.items l.text.items;
  faults : g.O.Sink.faults l.sink ≡ g.O.Sink.faults l.fn.sink;
}
