use Rattle.std.proofs.Common.{take}
use Rattle.std.specs.Prelude.{fold}
use Rattle.et_event.specs.Initialization.{field_set}
use Rattle.et_event.specs.Moments.{moment}
use Rattle.et_event.specs.Telling.{so_far, StandsAt}
use Rattle.et_initialize.proofs.quiet.set_constants.Given as goal

abbrev pub invariant-loop-k : goal.invariant-loop-k
invariant-loop-k l = StandsAt (fold (field_set (moment l.program l.fn.machine l.thread)) (so_far l.fn.machine l.fn.out) (take l.k l.constants)) l.fn.machine l.machine l.out
