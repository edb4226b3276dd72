use Rattle.std.proofs.Common.{◌≡◌, ◌-◌, length, drop}
use Rattle.et_event.specs.Heap.{naturals}
use Rattle.et_refs.specs.Counts.{array_count, capped_count}
use Rattle.et_refs.proofs.arrays.counts.count_objects.Given as goal

abbrev pub invariant-loop-k : goal.invariant-loop-k
invariant-loop-k l = l.objects ≡ capped_count (array_count (naturals (drop (length l.lengths - l.k) l.lengths)))
