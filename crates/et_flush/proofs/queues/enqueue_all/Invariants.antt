-- The references so far are in their queues.
use Rattle.std.proofs.Common.{◌≡◌, ℕ, ◌+◌, drop, Contains}
use Rattle.et_heap.specs.Objects.{IsHeld}
use Rattle.et_flush.specs.Flushes.{all_enqueued}
use Rattle.et_flush.specs.Searches.{ArePairsHeld}
use Rattle.et_flush.proofs.queues.enqueue_all.Given as goal

abbrev pub invariant-loop-reference : goal.invariant-loop-reference
invariant-loop-reference g l = record {
  heap : all_enqueued (drop l.reference-index l.references) l.heap ≡ all_enqueued l.references l.fn.heap;
  held : (r : ℕ) → Contains l.references r → IsHeld l.heap r;
  pairs : ArePairsHeld l.heap;
  visits : l.visits ≡ l.fn.visits + l.reference-index;
}
