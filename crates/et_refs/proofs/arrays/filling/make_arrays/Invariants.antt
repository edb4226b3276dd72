use Rattle.std.proofs.Common.{◌≡◌, ◌+◌, ◌-◌, ◌*◌, ◌≤◌, [], ◌∷◌, ◌++◌, length}
use Rattle.et_heap.specs.Objects.{most_objects}
use Rattle.et_state.specs.State.{Kept}
use Rattle.et_event.specs.Heap.{arrays_made, naturals}
use Rattle.et_event.specs.Telling.{so_far}
use Rattle.et_refs.specs.Filling.{with_filled, inner_dimensions, AreFillings}
use Rattle.et_refs.proofs.arrays.filling.make_arrays.Given as goal

abbrev pub invariant-elements : goal.invariant-elements
invariant-elements g l = record {
  same : (b : Kept) → with_filled (record { program = l.program; before = b; thread = l.thread }) (l.stack.items ++ l.last ∷ []) (inner_dimensions (naturals l.lengths)) (so_far l.machine l.out)
      ≡ arrays_made (record { program = l.program; before = b; thread = l.thread }) l.arrays.class (naturals l.lengths) (so_far l.fn.machine l.fn.out);
  fillings : AreFillings l.machine.heap (length l.lengths) 0 (l.stack.items ++ l.last ∷ []);
  lost : l.machine.lost ≡ l.fn.machine.lost;
  visits : l.visits + length l.stack.items + length l.fn.machine.heap ≤ l.fn.visits + length l.machine.heap;
}

abbrev pub decreases-elements : goal.decreases-elements
decreases-elements g l = 2 * (most_objects + 2 - length l.machine.heap) + length l.stack.items
