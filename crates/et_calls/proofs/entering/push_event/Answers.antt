use Rattle.std.proofs.Common.{◌≡◌, ℕ, List, Option, ◌∷◌, ◌++◌, [], length, sym, ◌∙◌, ap, arith}
use Rattle.std.specs.Prelude.{unwrap_or}
use Rattle.et_base.specs.declared.value.Value.{Value}
use Rattle.et_state.specs.NewFrames.{frame_with}
use Rattle.et_state.specs.Threads.{FrameState}
use Rattle.et_state.specs.State.{MachineState}
use Rattle.et_state.specs.Words.{top}
use Rattle.et_state.specs.declared.records.Record.TheVariants.{Enter}
use Rattle.et_event.specs.Frames.{method_frame, receiver_of}
use Rattle.et_event.specs.Locks.{entering_some, locks_of}
use Rattle.et_calls.specs.Entering.{arguments_passed, pushed_by}
use Rattle.et_calls.proofs.EnteredFrames.{base_arguments, base_few, base_lock, base_passed, entered_lock, method_entered}
use Rattle.et_calls.proofs.entering.push_event.Goals as goal

pub push_frame-requires : goal.push_frame-requires
push_frame-requires g c =
    let p = c.args.program.now in
    let t = c.args.thread in
    let m = c.args.machine.now in
    let m₂ = c.begin_prepared.new.machine in
    let x = c.args.entered.now in
    let lock = locks_of c.lock_for-lock.result in
    let received = c.receiver_of-receiver.ensures.value p c.requires.enters.entered.info in
    let locked = entered_lock p t x m c.receiver_of-receiver.result lock c.requires.enters.sound c.requires.enters.entered received c.receiver_of-receiver.ensures.held c.lock_for-lock.ensures in
    let there = base_lock p t x.classes.now m m₂ lock c.in_ok-begin_prepared.ensures.0 c.requires.enters.sound locked.1 in
    let same = base_arguments p t x.classes.now x.passed m m₂ c.in_ok-begin_prepared.ensures.0 in
    record {
      pushes = record {
        puts = record {
          passed = base_passed p t x.classes.now x.passed m m₂ c.in_ok-begin_prepared.ensures.0 c.requires.enters.entered.passed;
          lost = ap (λ (z : MachineState). z.lost) c.in_ok-begin_prepared.ensures.0;
          few = base_few p t x.classes.now m m₂ c.in_ok-begin_prepared.ensures.0 c.requires.few;
          arguments = omega (arith, ap length same, c.passed_count-count.ensures m.guest t c.requires.enters.entered.passed, c.new_head-head.ensures.arguments);
        };
        lock = there.0;
        times = there.1;
      };
    }

pub returns-clause-ok : goal.returns-clause-ok
returns-clause-ok g c =
    let p = c.args.program.now in
    let t = c.args.thread in
    let m = c.args.machine.now in
    let m₂ = c.begin_prepared.new.machine in
    let x = c.args.entered.now in
    let method = x.method in
    let body = x.code.now in
    let lock = locks_of c.lock_for-lock.result in
    let vs = arguments_passed (top m.guest t) x.passed in
    let received : c.receiver_of-receiver.result ≡ receiver_of p method vs = c.receiver_of-receiver.ensures.value p c.requires.enters.entered.info in
    let locked = entered_lock p t x m c.receiver_of-receiver.result lock c.requires.enters.sound c.requires.enters.entered received c.receiver_of-receiver.ensures.held c.lock_for-lock.ensures in
    let same : arguments_passed (top m₂.guest t) x.passed ≡ vs = base_arguments p t x.classes.now x.passed m m₂ c.in_ok-begin_prepared.ensures.0 in
    let frame : frame_with c.new_head-head.result (arguments_passed (top m₂.guest t) x.passed) ≡ method_frame p method body vs =
    ap (λ (us : List Value). frame_with c.new_head-head.result us) same ∙ c.new_head-head.ensures.frame p vs c.requires.enters.entered.info received (sym (c.passed_count-count.ensures m.guest t c.requires.enters.entered.passed)) in
    let is = c.in_ok-push_frame.ensures.ok ∙ ap (λ (f : FrameState). entering_some t lock (pushed_by m₂ t x.passed f)) frame in
    let number = c.number_of.ensures ∙ ap (λ (r : Option ℕ). unwrap_or r 0) received in
    let told = c.in_ok-push.ensures.ok
    ∙ (ap (λ (n : ℕ). c.begin_prepared.new.out ++ Enter n c.number.result method c.number_of.result ∷ []) c.clock.ensures
    ∙ (ap (λ (n : ℕ). c.begin_prepared.new.out ++ Enter m₂.guest.clock n method c.number_of.result ∷ []) c.number.ensures.value
    ∙ ap (λ (n : ℕ). c.begin_prepared.new.out ++ Enter m₂.guest.clock t method n ∷ []) number)) in
    method_entered p t method x.classes.now body x.passed lock m m₂ c.push_frame.new.machine c.args.out.now c.begin_prepared.new.out c.push.new.self c.requires.enters.order c.requires.enters.entered.classes
    c.requires.enters.sound c.requires.enters.entered.passed c.requires.fits locked.0 locked.1 c.in_ok-begin_prepared.ensures.0 c.in_ok-begin_prepared.ensures.1 is told
