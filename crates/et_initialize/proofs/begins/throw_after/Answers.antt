use Rattle.std.proofs.Common.{◌≡◌, ◌<◌, ◌∙◌, ℕ, List, length, true, refl, ap, subst, sym}
use Rattle.et_heap.specs.Objects.{has_room}
use Rattle.et_state.specs.Threads.{ThreadState}
use Rattle.et_state.specs.State.{MachineState}
use Rattle.et_program.specs.BootNames.{built_in_class_name}
use Rattle.et_program.specs.BootNamed.BuiltInClass.{BuiltInClass}
use Rattle.et_program.specs.Entries.{class_at}
use Rattle.et_event.specs.Errors.{error_class, class_called}
use Rattle.et_initialize.specs.Asked.{after}
use Rattle.et_initialize.proofs.Stepping.{fits_less, base_room, base_threads, made_alloc, error_thrown}
use Rattle.et_initialize.proofs.begins.throw_after.Goals as goal

pub begin_prepared-requires-clause-fits : goal.begin_prepared-requires-clause-fits
begin_prepared-requires-clause-fits c =
    let room : has_room (after c.args.program.now c.args.machine.now c.args.thread c.args.classes.now).state.heap 1 c.slots_of-slots.result ≡ true = sym (c.in_ok-prepared_fit.ensures c.args.thread c.requires.goes.ready) ∙ c.if-not-branch.false in
    fits_less (after c.args.program.now c.args.machine.now c.args.thread c.args.classes.now).state.heap c.slots_of-slots.result room

pub add_instance-requires : goal.add_instance-requires
add_instance-requires c =
    let room : has_room (after c.args.program.now c.args.machine.now c.args.thread c.args.classes.now).state.heap 1 c.slots_of-slots.result ≡ true = sym (c.in_ok-prepared_fit.ensures c.args.thread c.requires.goes.ready) ∙ c.if-not-branch.false in
    let p = c.args.program.now in
    base_room p c.args.thread c.args.classes.now c.args.machine.now c.begin_prepared.new.machine (class_at p c.class_called-class.result).info.slots c.in_ok-begin_prepared.ensures.0
    (subst (λ (n : ℕ). has_room (after p c.args.machine.now c.args.thread c.args.classes.now).state.heap 1 n ≡ true) c.slots_of-slots.ensures room)

pub throw-requires-clause-thread : goal.throw-requires-clause-thread
throw-requires-clause-thread c =
    let same = ap (λ (m : MachineState). m.guest.threads) c.in_ok-object.ensures.made.0 ∙ base_threads c.args.program.now c.args.thread c.args.classes.now c.args.machine.now c.begin_prepared.new.machine c.in_ok-begin_prepared.ensures.0 in
    subst (λ (ts : List ThreadState). c.args.thread < length ts) (sym same) c.requires.goes.frame.thread

pub returns : goal.returns
returns c =
    let room : has_room (after c.args.program.now c.args.machine.now c.args.thread c.args.classes.now).state.heap 1 c.slots_of-slots.result ≡ true = sym (c.in_ok-prepared_fit.ensures c.args.thread c.requires.goes.ready) ∙ c.if-not-branch.false in
    let p = c.args.program.now in
    let class = c.class_called-class.result in
    let slots = (class_at p class).info.slots in
    let m₂ = c.begin_prepared.new.machine in
    let name : class ≡ error_class p c.args.error = c.class_called-class.ensures.value ∙ ap (λ (k : BuiltInClass). class_called p (built_in_class_name k)) c.class.ensures in
    error_thrown p c.args.thread c.args.error c.args.classes.now c.args.machine.now m₂ c.add_instance.new.machine c.throw.new.self c.args.out.now c.begin_prepared.new.out c.add_instance.new.out class slots c.in_ok-object.object
    c.requires.goes.prepares.order c.requires.goes.prepares.classes c.requires.goes.prepares.sound c.requires.goes.frame name refl
    (subst (λ (n : ℕ). has_room (after p c.args.machine.now c.args.thread c.args.classes.now).state.heap 1 n ≡ true) c.slots_of-slots.ensures room)
    c.in_ok-begin_prepared.ensures.0 c.in_ok-begin_prepared.ensures.1 c.in_ok-object.ensures.made.0 c.in_ok-object.ensures.object
    (made_alloc m₂ c.add_instance.new.machine c.begin_prepared.new.out c.add_instance.new.out c.args.thread class slots c.in_ok-object.object c.in_ok-object.ensures.made.0 c.in_ok-object.ensures.object c.in_ok-object.ensures.made.1) c.throw.ensures.new
