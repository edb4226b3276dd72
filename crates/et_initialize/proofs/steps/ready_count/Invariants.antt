use Rattle.std.proofs.Common.{◌≡◌, true, take}
use Rattle.std.specs.List.{list_all}
use Rattle.et_event.specs.Moments.{moment, begins}
use Rattle.et_event.specs.Initialization.{is_ready}
use Rattle.et_initialize.proofs.steps.ready_count.Given as goal

abbrev pub invariant-loop-k : goal.invariant-loop-k
invariant-loop-k l = list_all (is_ready (moment l.program l.machine l.thread) (begins (moment l.program l.machine l.thread))) (take l.k l.classes) ≡ true
