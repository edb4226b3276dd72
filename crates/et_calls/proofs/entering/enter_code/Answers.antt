use Rattle.std.proofs.Common.{◌<◌, ◌≤◌, true, false, length, arith, sym, ◌∙◌}
use Rattle.et_state.specs.Threads.{most_frames}
use Rattle.et_state.specs.Words.{thread_at}
use Rattle.et_state.specs.declared.ends.EventEnd.TheVariants as ends
use Rattle.et_initialize.proofs.Turning.{answers_alike}
use Rattle.et_event.specs.Locks.{locks_of}
use Rattle.et_event.specs.Moments.{moment}
use Rattle.et_event.proofs.Answering.{if_ok}
use Rattle.et_calls.specs.Entering.{pushed_event}
use Rattle.et_calls.proofs.FirstMethods.{alike}
use Rattle.et_calls.proofs.EnteredFrames.{entered_lock, entering_is, fits_few, fits_full, full_frame, unfit}
use Rattle.et_calls.proofs.entering.enter_code.Goals as goal

pub may_enter_some-requires : goal.may_enter_some-requires
may_enter_some-requires g c =
    (entered_lock c.args.program.now c.args.thread c.args.entered.now c.args.machine.now c.receiver_of.result (locks_of c.lock_for-lock.result) c.requires.enters.sound c.requires.enters.entered
    (c.receiver_of.ensures.value c.args.program.now c.requires.enters.entered.info) c.receiver_of.ensures.held c.lock_for-lock.ensures).1

pub returns-then-not-may_enter_some-clause-ok : goal.returns-then-not-may_enter_some-clause-ok
returns-then-not-may_enter_some-clause-ok g c =
    alike _ _ c.wait_event.result c.args.machine.now c.wait_event.new.machine c.args.out.now c.args.out.now
    (entering_is c.args.program.now c.args.thread c.args.entered.now c.args.machine.now c.receiver_of.result (locks_of c.lock_for-lock.result) false c.requires.enters.sound c.requires.enters.entered
    (c.receiver_of.ensures.value c.args.program.now c.requires.enters.entered.info) c.receiver_of.ensures.held c.lock_for-lock.ensures (sym c.may_enter_some.ensures.value ∙ c.if-not-may_enter_some.true))
    (c.wait_event.ensures c.args.program.now c.args.thread c.args.out.now)

pub throw_after-requires : goal.throw_after-requires
throw_after-requires g c =
    let m = c.args.machine.now in
    let t = c.args.thread in
    let le : most_frames ≤ length (thread_at m.guest t).frames = omega (arith, c.if-frames-ge-MOST_FRAMES.true, c.frames.ensures.value) in
    record {
      goes = record {
        prepares = record { order = c.requires.enters.order; classes = c.requires.enters.entered.classes; sound = c.requires.enters.sound; clock = c.requires.enters.clock };
        frame = full_frame c.args.program.now t c.args.entered.now m c.requires.enters.entered le;
        ready = c.requires.enters.entered.ready;
      };
    }

pub push_event-requires-clause-few : goal.push_event-requires-clause-few
push_event-requires-clause-few g c = omega (arith, c.if-frames-ge-MOST_FRAMES.false, c.frames.ensures.value)

pub push_event-requires-clause-fits : goal.push_event-requires-clause-fits
push_event-requires-clause-fits g c =
    sym c.in_ok-classes_fit.ensures ∙ c.if-not-branch.false

pub returns-then-not-branch-clause-ok : goal.returns-then-not-branch-clause-ok
returns-then-not-branch-clause-ok g c =
    let p = c.args.program.now in
    let m = c.args.machine.now in
    let t = c.args.thread in
    let x = c.args.entered.now in
    let lt : length (thread_at m.guest t).frames < most_frames = omega (arith, c.if-frames-ge-MOST_FRAMES.false, c.frames.ensures.value) in
    alike _ _ ends.ObjectLimit m m c.args.out.now c.args.out.now
    (entering_is c.args.program.now c.args.thread c.args.entered.now c.args.machine.now c.receiver_of.result (locks_of c.lock_for-lock.result) true c.requires.enters.sound c.requires.enters.entered
    (c.receiver_of.ensures.value c.args.program.now c.requires.enters.entered.info) c.receiver_of.ensures.held c.lock_for-lock.ensures (sym c.may_enter_some.ensures.value ∙ c.if-not-may_enter_some.false))
    (fits_few p t x.classes.now (pushed_event (moment p m t) x) m m c.args.out.now c.args.out.now ends.ObjectLimit lt
    (unfit p t x m c.args.out.now c.requires.enters.sound c.requires.enters.entered
    (sym c.in_ok-classes_fit.ensures ∙ c.if-not-branch.true)))

pub returns-clause-ok : goal.returns-clause-ok
returns-clause-ok g c =
    let p = c.args.program.now in
    let m = c.args.machine.now in
    let t = c.args.thread in
    let x = c.args.entered.now in
    let lt : length (thread_at m.guest t).frames < most_frames = omega (arith, c.if-frames-ge-MOST_FRAMES.false, c.frames.ensures.value) in
    answers_alike c.push_event.result _ _ m c.push_event.new.machine c.args.out.now c.push_event.new.out
    (entering_is c.args.program.now c.args.thread c.args.entered.now c.args.machine.now c.receiver_of.result (locks_of c.lock_for-lock.result) true c.requires.enters.sound c.requires.enters.entered
    (c.receiver_of.ensures.value c.args.program.now c.requires.enters.entered.info) c.receiver_of.ensures.held c.lock_for-lock.ensures (sym c.may_enter_some.ensures.value ∙ c.if-not-may_enter_some.false))
    (if_ok c.push_event.result
    (λ end a. fits_few p t x.classes.now (pushed_event (moment p m t) x) m c.push_event.new.machine c.args.out.now c.push_event.new.out end lt a)
    c.push_event.ensures.ok)

pub returns-then-frames-ge-MOST_FRAMES-clause-ok : goal.returns-then-frames-ge-MOST_FRAMES-clause-ok
returns-then-frames-ge-MOST_FRAMES-clause-ok g c =
    let p = c.args.program.now in
    let m = c.args.machine.now in
    let t = c.args.thread in
    let x = c.args.entered.now in
    let le : most_frames ≤ length (thread_at m.guest t).frames = omega (arith, c.if-frames-ge-MOST_FRAMES.true, c.frames.ensures.value) in
    answers_alike c.throw_after.result _ _ m c.throw_after.new.machine c.args.out.now c.throw_after.new.out
    (entering_is c.args.program.now c.args.thread c.args.entered.now c.args.machine.now c.receiver_of.result (locks_of c.lock_for-lock.result) true c.requires.enters.sound c.requires.enters.entered
    (c.receiver_of.ensures.value c.args.program.now c.requires.enters.entered.info) c.receiver_of.ensures.held c.lock_for-lock.ensures (sym c.may_enter_some.ensures.value ∙ c.if-not-may_enter_some.false))
    (if_ok c.throw_after.result
    (λ end a. fits_full p t x.classes.now (pushed_event (moment p m t) x) m c.throw_after.new.machine c.args.out.now c.throw_after.new.out end le a)
    c.throw_after.ensures)
