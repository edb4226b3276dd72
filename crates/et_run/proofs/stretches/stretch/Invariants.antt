use Rattle.std.proofs.Common.{◌-◌}
use Rattle.et_run.specs.WithTexts.{state_of}
use Rattle.et_run.proofs.Stretching.{IsGoing}
use Rattle.et_run.proofs.stretches.stretch.Given as goal

abbrev pub invariant-events : goal.invariant-events
invariant-events g l = IsGoing l.program l.slice.place l.slice.events l.fn.running.machine.guest.clock (state_of l.fn.running) l.fn.stamps l.thread l.standing.threads l.standing.objects l.fn.visits l.quiet (state_of l.running) l.stamps l.out.records l.out.said.items l.visits

abbrev pub decreases-events : goal.decreases-events
decreases-events g l = l.slice.events - l.quiet
