use Rattle.et_event.specs.Moments.{moment}
use Rattle.et_event.specs.Telling.{so_far, StandsAt}
use Rattle.et_initialize.proofs.Preparing.{pre_first}
use Rattle.et_initialize.proofs.quiet.begin_prepared.Given as goal

abbrev pub invariant-loop-k : goal.invariant-loop-k
invariant-loop-k l = StandsAt (pre_first (moment l.program l.initial.machine l.thread) (so_far l.initial.machine l.fn.out) l.classes l.k) l.initial.machine l.machine l.out
