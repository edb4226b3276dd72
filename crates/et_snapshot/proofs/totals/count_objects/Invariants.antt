use Rattle.std.proofs.Common.{take}
use Rattle.et_snapshot.specs.Heap.{objects_of}
use Rattle.et_snapshot.proofs.Counting.{Counts}
use Rattle.et_snapshot.proofs.totals.count_objects.Given as goal

abbrev pub invariant-loop-entry : goal.invariant-loop-entry
invariant-loop-entry l = record { counts : Counts (objects_of (take l.entry-index l.objects)) l.totals l.all }
