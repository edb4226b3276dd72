use Rattle.et_refcount.proofs.Releasing.{IsReleasing}
use Rattle.et_refcount.proofs.objects.release.Given as goal

abbrev pub invariant-loop-slot : goal.invariant-loop-slot
invariant-loop-slot l = IsReleasing l.own.entries l.dead l.fn.counts l.fn.work.items l._slot-iterator l.counts l.work.items
