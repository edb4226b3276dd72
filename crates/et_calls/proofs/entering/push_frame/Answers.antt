use Rattle.std.proofs.Common.{◌∙◌, ap}
use Rattle.et_state.specs.NewFrames.{frame_with}
use Rattle.et_state.specs.State.{MachineState}
use Rattle.et_state.specs.Words.{top}
use Rattle.et_event.specs.Locks.{entering_some, locks_of}
use Rattle.et_calls.specs.Entering.{arguments_passed}
use Rattle.et_calls.proofs.Passed.{pushed_lock}
use Rattle.et_calls.proofs.entering.push_frame.Goals as goal

pub put_frame-requires : goal.put_frame-requires
put_frame-requires g c = record { puts = c.requires.pushes.puts }

pub enter_some-requires : goal.enter_some-requires
enter_some-requires g c =
    let m = c.args.machine.now in
    let there = pushed_lock m c.put_frame.new.machine c.args.thread c.args.passed.now (frame_with c.args.head.now (arguments_passed (top m.guest c.args.thread) c.args.passed.now)) (locks_of c.args.lock.now) c.in_ok-put_frame.ensures c.requires.pushes.lock c.requires.pushes.times in
    record { there = there.0; count = there.1 }

pub returns-clause-ok : goal.returns-clause-ok
returns-clause-ok g c = c.enter_some.ensures.new ∙ ap (λ (z : MachineState). entering_some c.args.thread (locks_of c.args.lock.now) z) c.in_ok-put_frame.ensures
