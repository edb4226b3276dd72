use Rattle.et_loop.proofs.Marking.{IsNew}
use Rattle.et_loop.proofs.marks.stamp_new.Given as goal

abbrev pub invariant-new : goal.invariant-new
invariant-new l = IsNew l.fn.stamps l.stamps l.before l.number l.event
