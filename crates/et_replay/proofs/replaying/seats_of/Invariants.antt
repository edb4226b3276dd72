use Rattle.std.proofs.Common.{◌≡◌, ◌++◌, Some, None, length}
use Rattle.std.specs.Vec.Iter.{into_iter_items, into_iter_len}
use Rattle.et_replay.specs.Seats.{EachZip}
use Rattle.et_replay.proofs.replaying.seats_of.Given as goal

abbrev pub invariant-loop-model : goal.invariant-loop-model
invariant-loop-model g l = record {
  sit : EachZip (λ seat b. (seat.model ≡ Some b) × (seat.report ≡ None)) l.seats.items l.yielded;
  rest : l.yielded ++ into_iter_items l.model-iterator ≡ l.fn.models.items;
  left : into_iter_len l.model-iterator ≡ length (into_iter_items l.model-iterator);
}
