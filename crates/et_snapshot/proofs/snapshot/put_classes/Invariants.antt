use Rattle.std.proofs.Common.{◌≡◌, ℕ, List, drop}
use Rattle.std.specs.List.{zip}
use Rattle.et_snapshot.specs.declared.totals.Total.{Total}
use Rattle.et_snapshot.specs.Heap.{lists_of, total_row}
use Rattle.et_snapshot.proofs.Pieces.{Puts}
use Rattle.et_snapshot.proofs.snapshot.put_classes.Given as goal

abbrev pub invariant-loop-index : goal.invariant-loop-index
invariant-loop-index g l = record {
  puts : Puts (λ (p : List ℕ × Total). total_row p.0 p.1) (zip (lists_of l.names) l.totals) (drop l.index (zip (lists_of l.names) l.totals)) (g.O.Sink.taken l.fn.sink) (g.O.Sink.taken l.sink) l.fn.text.items l.text.items;
  faults : g.O.Sink.faults l.sink ≡ g.O.Sink.faults l.fn.sink;
}
