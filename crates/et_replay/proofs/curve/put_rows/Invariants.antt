use Rattle.std.proofs.Common.{◌≡◌, take}
use Rattle.std.specs.List.{flat_map}
use Rattle.et_io.specs.Sink.{TakesUpTo}
use Rattle.et_replay.specs.Lives.{row_by}
use Rattle.et_replay.proofs.Adding.{Adds}
use Rattle.et_replay.proofs.curve.put_rows.Given as goal

abbrev pub invariant-loop-event : goal.invariant-loop-event
invariant-loop-event g l = record {
  born : Adds l.born.sizes.items l.born.at l.born.sum l.fn.lives.born.items l.events l.event-index 1;
  died : Adds l.died.sizes.items l.died.at l.died.sum l.fn.lives.died.items l.events l.event-index 0;
  taken : TakesUpTo (g.O.Sink.taken l.fn.sink) (g.O.Sink.taken l.sink) (flat_map (row_by l.fn.lives.born.items l.fn.lives.died.items) (take l.event-index l.events)) l.rows.items;
  faults : g.O.Sink.faults l.sink ≡ g.O.Sink.faults l.fn.sink;
}
