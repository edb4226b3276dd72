use Rattle.std.proofs.Common.{◌≡◌, length}
use Rattle.et_heap.specs.Refs.{refs_of}
use Rattle.et_heap.proofs.refs.RefsIterator.next.Given as goal

abbrev pub invariant-loop-first : goal.invariant-loop-first
invariant-loop-first l = record {
  slots : refs_of l.self-inside.slots.now ≡ refs_of l.initial.self-inside.slots.now;
  queue : l.self-inside.queue ≡ l.initial.self-inside.queue;
  waiting : l.self-inside.waiting ≡ l.initial.self-inside.waiting;
}

abbrev pub decreases-loop-first : goal.decreases-loop-first
decreases-loop-first l = length l.self-inside.slots.now
