use Rattle.std.proofs.Common.{◌≡◌, length}
use Rattle.et_models.specs.Generations.{AreEmpty}
use Rattle.et_models.proofs.slots.make_slots.Given as goal

abbrev pub invariant-loop-index : goal.invariant-loop-index
invariant-loop-index l = record {
  long : length l.slots.items ≡ l._index;
  empty : AreEmpty l.slots.items;
}
