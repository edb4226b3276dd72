use Rattle.std.proofs.Common.{◌-◌}
use Rattle.et_state.specs.Threads.{rest_of}
use Rattle.et_state.specs.Words.{thread_at, top}
use Rattle.et_run.proofs.LiftedLoop.{SoFar}
use Rattle.et_run.proofs.lifted.lifted_events.Given as goal

abbrev pub invariant-steps : goal.invariant-steps
invariant-steps g l =
    SoFar l.program l.fn.machine.heap l.heap l.e l.most l.count (top l.fn.machine.guest l.thread) (rest_of (thread_at l.fn.machine.guest l.thread).frames) l.running l.fn.stamps l.stamps l.fn.visits l.visits

abbrev pub decreases-steps : goal.decreases-steps
decreases-steps g l = l.most - l.count
