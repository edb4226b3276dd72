use Rattle.std.proofs.Common.{◌≡◌, ◌<◌, ◌≤◌, List, length, true, sym, subst, ◌∙◌, arith}
use Rattle.std.specs.Prelude.{slice_index_or}
use Rattle.et_state.specs.Threads.{ThreadState, no_thread, most_frames}
use Rattle.et_state.specs.declared.class_state.ClassState.TheVariants.{Begun}
use Rattle.et_event.specs.Initialization.{constants_set, with_state}
use Rattle.et_event.specs.Moments.{fits_heap, moment}
use Rattle.et_initialize.specs.Asked.{after}
use Rattle.et_initialize.proofs.Setting.{begun_untouched}
use Rattle.et_initialize.proofs.Running.{marked_ready, marked_unset}
use Rattle.et_initialize.proofs.Stepping.{base_classes, base_ready, base_state, base_lost, begin_less, began_fits, began_threads, began_led, began_done, began_full, began_overflows}
use Rattle.et_initialize.proofs.Turning.{answers_alike}
use Rattle.et_initialize.proofs.begins.begin_after.Goals as goal

pub throw_after-requires : goal.throw_after-requires
throw_after-requires c =
    let full : most_frames ≤ length (slice_index_or c.args.machine.now.guest.threads c.args.thread no_thread).frames = subst (λ n. most_frames ≤ n) c.frames.ensures.value c.if-frames-ge-MOST_FRAMES.true in
    record { goes = record { prepares = c.requires.prepares; frame = record { thread = c.requires.thread; frame = omega (arith, full) }; ready = c.requires.ready } }

pub returns-then-frames-ge-MOST_FRAMES : goal.returns-then-frames-ge-MOST_FRAMES
returns-then-frames-ge-MOST_FRAMES c =
    answers_alike c.throw_after.result _ _ c.args.machine.now c.throw_after.new.machine c.args.out.now c.throw_after.new.out
    (began_overflows c.args.program.now c.args.thread c.args.class c.args.classes.now c.args.machine.now (subst (λ n. most_frames ≤ n) c.frames.ensures.value c.if-frames-ge-MOST_FRAMES.true)) c.throw_after.ensures

pub returns-then-not-branch : goal.returns-then-not-branch
returns-then-not-branch c =
    began_full c.args.program.now c.args.thread c.args.class c.args.classes.now c.args.machine.now c.args.out.now (subst (λ n. n < most_frames) c.frames.ensures.value c.if-frames-ge-MOST_FRAMES.false)
    (sym (c.in_ok-prepared_class_fits.ensures c.args.thread c.requires.ready (Begun c.args.thread)) ∙ c.if-not-branch.true)

pub begin_prepared-requires-clause-fits : goal.begin_prepared-requires-clause-fits
begin_prepared-requires-clause-fits c =
    begin_less c.args.program.now c.args.thread c.args.class c.args.classes.now c.args.machine.now (sym (c.in_ok-prepared_class_fits.ensures c.args.thread c.requires.ready (Begun c.args.thread)) ∙ c.if-not-branch.false)

pub set_class_state-requires : goal.set_class_state-requires
set_class_state-requires c =
    base_classes c.args.program.now c.args.thread c.args.class c.args.classes.now c.args.machine.now c.begin_prepared.new.machine c.requires.prepares.order c.requires.prepares.classes c.requires.prepares.sound c.in_ok-begin_prepared.ensures.0 c.requires.class

pub set_constants-requires-clause-sets : goal.set_constants-requires-clause-sets
set_constants-requires-clause-sets c = record {
  order = c.requires.prepares.order;
  ready =
      marked_ready c.args.program.now c.args.class (Begun c.args.thread) c.begin_prepared.new.machine c.set_class_state.new.self c.requires.class (begun_untouched c.args.thread)
      (base_ready c.args.program.now c.args.thread c.args.classes.now c.args.machine.now c.begin_prepared.new.machine c.requires.prepares.order c.requires.prepares.classes c.requires.prepares.sound c.in_ok-begin_prepared.ensures.0) c.set_class_state.ensures;
  lost = base_lost c.args.program.now c.args.thread c.args.class (Begun c.args.thread) c.args.classes.now c.args.machine.now c.begin_prepared.new.machine c.set_class_state.new.self c.in_ok-begin_prepared.ensures.0 c.set_class_state.ensures;
}

pub set_constants-requires-clause-unset : goal.set_constants-requires-clause-unset
set_constants-requires-clause-unset c =
    marked_unset c.args.program.now c.args.class (Begun c.args.thread) c.begin_prepared.new.machine c.set_class_state.new.self
    (base_ready c.args.program.now c.args.thread c.args.classes.now c.args.machine.now c.begin_prepared.new.machine c.requires.prepares.order c.requires.prepares.classes c.requires.prepares.sound c.in_ok-begin_prepared.ensures.0)
    (base_state c.args.program.now c.args.thread c.args.class c.args.classes.now c.args.machine.now c.begin_prepared.new.machine c.in_ok-begin_prepared.ensures.0 c.requires.untouched) c.set_class_state.ensures

pub set_constants-requires-clause-fits : goal.set_constants-requires-clause-fits
set_constants-requires-clause-fits c =
    began_fits c.args.program.now c.args.thread c.args.class c.args.classes.now c.args.machine.now c.begin_prepared.new.machine c.set_class_state.new.self c.args.out.now c.begin_prepared.new.out c.in_ok-begin_prepared.ensures.0 c.in_ok-begin_prepared.ensures.1 c.set_class_state.ensures
    (sym (c.in_ok-prepared_class_fits.ensures c.args.thread c.requires.ready (Begun c.args.thread)) ∙ c.if-not-branch.false)

pub enter_frame-requires-clause-thread : goal.enter_frame-requires-clause-thread
enter_frame-requires-clause-thread c =
    let same = began_threads c.args.program.now c.args.thread c.args.class c.args.classes.now c.args.machine.now c.begin_prepared.new.machine c.set_class_state.new.self c.set_constants.new.machine c.args.out.now c.begin_prepared.new.out c.set_constants.new.out c.in_ok-begin_prepared.ensures.0 c.in_ok-begin_prepared.ensures.1 c.set_class_state.ensures c.in_ok-set_constants.ensures in
    subst (λ (ts : List ThreadState). c.args.thread < length ts) (sym same) c.requires.thread

pub enter_frame-requires-clause-few : goal.enter_frame-requires-clause-few
enter_frame-requires-clause-few c =
    let same = began_threads c.args.program.now c.args.thread c.args.class c.args.classes.now c.args.machine.now c.begin_prepared.new.machine c.set_class_state.new.self c.set_constants.new.machine c.args.out.now c.begin_prepared.new.out c.set_constants.new.out c.in_ok-begin_prepared.ensures.0 c.in_ok-begin_prepared.ensures.1 c.set_class_state.ensures c.in_ok-set_constants.ensures in
    subst (λ (ts : List ThreadState). length (slice_index_or ts c.args.thread no_thread).frames < most_frames) (sym same) (subst (λ n. n < most_frames) c.frames.ensures.value c.if-frames-ge-MOST_FRAMES.false)

pub returns : goal.returns
returns c =
    let p = c.args.program.now in
    let t = c.args.thread in
    let m = c.args.machine.now in
    let fits : fits_heap (constants_set (moment p m t) c.args.class (with_state c.args.class (Begun t) (after p m t c.args.classes.now))).state.heap ≡ true = sym (c.in_ok-prepared_class_fits.ensures t c.requires.ready (Begun t)) ∙ c.if-not-branch.false in
    began_done p t c.args.class c.args.classes.now m c.enter_frame.new.self c.args.out.now c.set_constants.new.out (subst (λ n. n < most_frames) c.frames.ensures.value c.if-frames-ge-MOST_FRAMES.false) fits
    (began_led p t c.args.class c.args.classes.now m c.begin_prepared.new.machine c.set_class_state.new.self c.set_constants.new.machine c.enter_frame.new.self c.args.out.now c.begin_prepared.new.out c.set_constants.new.out _
    c.requires.prepares.order c.requires.prepares.classes c.requires.class c.requires.prepares.sound c.requires.thread c.requires.untouched c.in_ok-begin_prepared.ensures.0 c.in_ok-begin_prepared.ensures.1 c.set_class_state.ensures c.in_ok-set_constants.ensures c.initializer.ensures.frame c.in_ok-enter_frame.ensures.ok)
