use Rattle.std.proofs.Common.{◌≡◌, ℕ, ◌<◌, true, length, Option, Some, None, IfSome, refl, sym, ap, subst, ◌∙◌}
use Rattle.std.specs.Prelude.{IsTrue}
use Rattle.et_state.specs.declared.class_state.ClassState.TheVariants.{Done}
use Rattle.et_state.specs.declared.stage.Stage.{Stage}
use Rattle.et_state.specs.Threads.{FrameState, is_before_class}
use Rattle.et_program.specs.Entries.{ClassInfoOf, class_at}
use Rattle.et_program.specs.declared.info.MethodInfo.{MethodInfo}
use Rattle.et_state.specs.declared.ends.EventEnd.TheVariants as ends
use Rattle.et_event.specs.Answered.{EventAnswers}
use Rattle.et_event.specs.Initialization.{enters_clinit}
use Rattle.et_event.specs.Moments.{moment, fits_heap}
use Rattle.et_event.specs.Sites.{present_body}
use Rattle.et_initialize.proofs.Counting.{room_fits}
use Rattle.et_initialize.specs.Asked.{after}
use Rattle.et_initialize.proofs.Stepping.{waiting, has_frame_on, top_on, base_classes, base_threads, marked_threads, empty_lost, finished, clinit_entered, clinit_full, told_enter}
use Rattle.et_initialize.proofs.steps.enter_event.Goals as goal

pub returns-then-not-branch : goal.returns-then-not-branch
returns-then-not-branch c =
    clinit_full c.args.program.now c.args.thread c.args.class _ c.args.classes.now c.args.machine.now c.args.out.now
    (sym (room_fits (after c.args.program.now c.args.machine.now c.args.thread c.args.classes.now).state.heap) ∙ (sym (c.in_ok-prepared_fit.ensures c.args.thread c.requires.goes.ready) ∙ c.if-not-branch.true))

pub begin_prepared-requires-clause-fits : goal.begin_prepared-requires-clause-fits
begin_prepared-requires-clause-fits c =
    sym (room_fits (after c.args.program.now c.args.machine.now c.args.thread c.args.classes.now).state.heap) ∙ (sym (c.in_ok-prepared_fit.ensures c.args.thread c.requires.goes.ready) ∙ c.if-not-branch.false)

-- WITHOUT <clinit>

pub set_class_state-requires : goal.set_class_state-requires
set_class_state-requires c =
    base_classes c.args.program.now c.args.thread c.args.class c.args.classes.now c.args.machine.now c.begin_prepared.new.machine c.requires.goes.prepares.order c.requires.goes.prepares.classes c.requires.goes.prepares.sound c.in_ok-begin_prepared.ensures.0 c.requires.class

pub drop_frame-requires-clause-frame : goal.drop_frame-requires-clause-frame
drop_frame-requires-clause-frame c =
    has_frame_on c.args.machine.now.guest c.set_class_state.new.self.guest c.args.thread
    (marked_threads c.args.class Done c.args.machine.now c.begin_prepared.new.machine c.set_class_state.new.self (base_threads c.args.program.now c.args.thread c.args.classes.now c.args.machine.now c.begin_prepared.new.machine c.in_ok-begin_prepared.ensures.0) c.set_class_state.ensures) c.requires.goes.frame

pub drop_frame-requires-clause-lost : goal.drop_frame-requires-clause-lost
drop_frame-requires-clause-lost c =
    empty_lost c.args.program.now c.args.thread c.args.class Done c.args.classes.now c.args.machine.now c.begin_prepared.new.machine c.set_class_state.new.self c.in_ok-begin_prepared.ensures.0 c.set_class_state.ensures
    (waiting c.args.program.now c.args.class c.args.thread c.args.machine.now c.requires.goes.prepares.sound c.requires.goes.frame c.requires.stage)

pub returns-in_default : goal.returns-in_default
returns-in_default c =
    let p = c.args.program.now in
    let t = c.args.thread in
    let m = c.args.machine.now in
    let list = c.args.classes.now in
    let e = moment p m t in
    let d = after p m t list in
    let fits : fits_heap d.state.heap ≡ true = sym (room_fits d.state.heap) ∙ (sym (c.in_ok-prepared_fit.ensures t c.requires.goes.ready) ∙ c.if-not-branch.false) in
    let w = waiting p c.args.class t m c.requires.goes.prepares.sound c.requires.goes.frame c.requires.stage in
    let named : (class_at p c.args.class).info.clinit ≡ None = sym (ap (λ (i : ClassInfoOf). i.clinit) c.class.ensures.value) ∙ c.in_default.is in
    subst (λ (o : Option ℕ). EventAnswers (enters_clinit e c.args.class o d) ends.Done m c.drop_frame.new.self c.args.out.now c.begin_prepared.new.out) (sym named)
    (finished p t c.args.class list m c.begin_prepared.new.machine c.set_class_state.new.self c.drop_frame.new.self c.args.out.now c.begin_prepared.new.out c.requires.goes.prepares.order c.requires.goes.prepares.classes c.requires.goes.prepares.sound c.requires.goes.frame
    w fits c.in_ok-begin_prepared.ensures.0 c.in_ok-begin_prepared.ensures.1 c.set_class_state.ensures c.drop_frame.ensures)

-- .. AND WITH IT

pub method-requires : goal.method-requires
method-requires c = subst (λ (o : Option ℕ). IfSome o (λ m. m < length c.args.program.now.methods)) c.in-Some.is c.class.ensures.within.clinit

pub enter_clinit-requires-clause-frame : goal.enter_clinit-requires-clause-frame
enter_clinit-requires-clause-frame c =
    has_frame_on c.args.machine.now.guest c.begin_prepared.new.machine.guest c.args.thread (base_threads c.args.program.now c.args.thread c.args.classes.now c.args.machine.now c.begin_prepared.new.machine c.in_ok-begin_prepared.ensures.0) c.requires.goes.frame

pub enter_clinit-requires-clause-before : goal.enter_clinit-requires-clause-before
enter_clinit-requires-clause-before c =
    let same = top_on c.args.machine.now.guest c.begin_prepared.new.machine.guest c.args.thread (base_threads c.args.program.now c.args.thread c.args.classes.now c.args.machine.now c.begin_prepared.new.machine c.in_ok-begin_prepared.ensures.0) in
    subst (λ (s : Stage). IsTrue (is_before_class s)) (sym (ap (λ (f : FrameState). f.stage) same ∙ c.requires.stage)) refl

pub enter_clinit-requires-clause-locals : goal.enter_clinit-requires-clause-locals
enter_clinit-requires-clause-locals c =
    let same = top_on c.args.machine.now.guest c.begin_prepared.new.machine.guest c.args.thread (base_threads c.args.program.now c.args.thread c.args.classes.now c.args.machine.now c.begin_prepared.new.machine c.in_ok-begin_prepared.ensures.0) in
    ap (λ (f : FrameState). f.locals) same ∙ (waiting c.args.program.now c.args.class c.args.thread c.args.machine.now c.requires.goes.prepares.sound c.requires.goes.frame c.requires.stage).locals

pub enter_clinit-requires-clause-operands : goal.enter_clinit-requires-clause-operands
enter_clinit-requires-clause-operands c =
    let same = top_on c.args.machine.now.guest c.begin_prepared.new.machine.guest c.args.thread (base_threads c.args.program.now c.args.thread c.args.classes.now c.args.machine.now c.begin_prepared.new.machine c.in_ok-begin_prepared.ensures.0) in
    ap (λ (f : FrameState). f.operands) same ∙ (waiting c.args.program.now c.args.class c.args.thread c.args.machine.now c.requires.goes.prepares.sound c.requires.goes.frame c.requires.stage).operands

pub returns : goal.returns
returns c =
    let p = c.args.program.now in
    let t = c.args.thread in
    let m = c.args.machine.now in
    let list = c.args.classes.now in
    let e = moment p m t in
    let d = after p m t list in
    let fits : fits_heap d.state.heap ≡ true = sym (room_fits d.state.heap) ∙ (sym (c.in_ok-prepared_fit.ensures t c.requires.goes.ready) ∙ c.if-not-branch.false) in
    let w = waiting p c.args.class t m c.requires.goes.prepares.sound c.requires.goes.frame c.requires.stage in
    let named : (class_at p c.args.class).info.clinit ≡ Some c.in-Some.clinit = sym (ap (λ (i : ClassInfoOf). i.clinit) c.class.ensures.value) ∙ c.in-Some.is in
    let stack = c.frame_size-max_stack.ensures.stack ∙ ap (λ (i : MethodInfo). (present_body i.code).max_stack) c.method.ensures.value in
    let locals = c.frame_size-max_stack.ensures.locals ∙ ap (λ (i : MethodInfo). (present_body i.code).max_locals) c.method.ensures.value in
    subst (λ (o : Option ℕ). EventAnswers (enters_clinit e c.args.class o d) ends.Done m c.enter_clinit.new.self c.args.out.now c.push.new.self) (sym named)
    (clinit_entered p t c.args.class c.in-Some.clinit c.frame_size-max_stack.result.0 c.frame_size-max_stack.result.1 list m c.begin_prepared.new.machine c.enter_clinit.new.self c.args.out.now c.begin_prepared.new.out c.push.new.self
    c.requires.goes.prepares.order c.requires.goes.prepares.classes c.requires.goes.prepares.sound c.requires.goes.frame w fits c.in_ok-begin_prepared.ensures.0 c.in_ok-begin_prepared.ensures.1 stack locals c.in_ok-enter_clinit.ensures.ok
    (told_enter c.begin_prepared.new.out c.push.new.self c.clock.result c.enter_clinit.new.self.guest.clock t c.number.result c.in-Some.clinit c.clock.ensures c.number.ensures.value c.in_ok-push.ensures.ok))
