use Rattle.std.proofs.Common.{◌+◌, length, sum}
use Rattle.et_refcount.specs.Objects.{tables_of, IsFreeing}
use Rattle.et_refcount.proofs.objects.free_all.Given as goal

abbrev pub invariant-loop-object : goal.invariant-loop-object
invariant-loop-object l = IsFreeing (tables_of l.fn.objects) (tables_of l.objects) l.work.items l.freed

abbrev pub decreases-loop-object : goal.decreases-loop-object
decreases-loop-object l = length l.work.items + sum l.objects.counts.items
