use Rattle.std.proofs.Common.{◌≡◌, ◌<◌, true, ℕ, List, length, refl, sym, ◌∙◌, subst}
use Rattle.std.specs.Prelude.{fold}
use Rattle.et_state.specs.Threads.{lost_room}
use Rattle.et_state.specs.declared.class_state.ClassState.TheVariants.{Done}
use Rattle.et_state.specs.State.{MachineState}
use Rattle.et_event.specs.Moments.{moment, fits_heap}
use Rattle.et_event.specs.Telling.{so_far}
use Rattle.et_initialize.proofs.Setting.{done_step, done_untouched, grown_order}
use Rattle.et_initialize.proofs.Counting.{done_is}
use Rattle.et_initialize.proofs.Running.{next_within, class_ready, marked_ready, marked_unset, done_fits, done_came, stayed, round_has_room, round_came}
use Rattle.et_initialize.proofs.quiet.set_quietly.Goals as goal

pub class_state-requires : goal.class_state-requires
class_state-requires c =
    let ready = class_ready c.args.program.now c.args.thread c.args.machine.now c.loop-k.machine c.args.out.now c.loop-k.out c.init_order-order.result.now c.loop-k.k c.requires.program c.loop-k-test.true c.init_order-order.ensures.within c.requires.ready c.loop-k.invariant in
    subst (λ (n : ℕ). c.index-order-k.result < n) (sym ready.classes) (next_within (length c.args.program.now.classes) c.init_order-order.result.now c.loop-k.k c.index-order-k.result c.loop-k-test.true c.index-order-k.is c.init_order-order.ensures.within)

pub set_class_state-requires : goal.set_class_state-requires
set_class_state-requires c =
    let ready = class_ready c.args.program.now c.args.thread c.args.machine.now c.loop-k.machine c.args.out.now c.loop-k.out c.init_order-order.result.now c.loop-k.k c.requires.program c.loop-k-test.true c.init_order-order.ensures.within c.requires.ready c.loop-k.invariant in
    subst (λ (n : ℕ). c.index-order-k.result < n) (sym ready.classes) (next_within (length c.args.program.now.classes) c.init_order-order.result.now c.loop-k.k c.index-order-k.result c.loop-k-test.true c.index-order-k.is c.init_order-order.ensures.within)

pub set_constants-requires-clause-class : goal.set_constants-requires-clause-class
set_constants-requires-clause-class c =
    next_within (length c.args.program.now.classes) c.init_order-order.result.now c.loop-k.k c.index-order-k.result c.loop-k-test.true c.index-order-k.is c.init_order-order.ensures.within

pub set_constants-requires-clause-sets : goal.set_constants-requires-clause-sets
set_constants-requires-clause-sets c =
    let within = next_within (length c.args.program.now.classes) c.init_order-order.result.now c.loop-k.k c.index-order-k.result c.loop-k-test.true c.index-order-k.is c.init_order-order.ensures.within in
    let ready = class_ready c.args.program.now c.args.thread c.args.machine.now c.loop-k.machine c.args.out.now c.loop-k.out c.init_order-order.result.now c.loop-k.k c.requires.program c.loop-k-test.true c.init_order-order.ensures.within c.requires.ready c.loop-k.invariant in
    record {
      order = c.requires.program;
      ready = marked_ready c.args.program.now c.index-order-k.result Done c.loop-k.machine c.set_class_state.new.self within done_untouched ready c.set_class_state.ensures;
      lost = subst (λ (m : MachineState). length m.lost < lost_room) (sym c.set_class_state.ensures) (subst (λ (m : MachineState). length m.lost < lost_room) (sym c.loop-k.invariant.0) c.requires.lost);
    }

pub set_constants-requires-clause-unset : goal.set_constants-requires-clause-unset
set_constants-requires-clause-unset c =
    let ready = class_ready c.args.program.now c.args.thread c.args.machine.now c.loop-k.machine c.args.out.now c.loop-k.out c.init_order-order.result.now c.loop-k.k c.requires.program c.loop-k-test.true c.init_order-order.ensures.within c.requires.ready c.loop-k.invariant in
    marked_unset c.args.program.now c.index-order-k.result Done c.loop-k.machine c.set_class_state.new.self ready (sym c.class_state.ensures ∙ c.in-Untouched.is) c.set_class_state.ensures

pub set_constants-requires-clause-fits : goal.set_constants-requires-clause-fits
set_constants-requires-clause-fits c =
    done_fits c.args.program.now c.args.thread c.index-order-k.result c.loop-k.machine c.set_class_state.new.self c.loop-k.out (sym c.class_state.ensures ∙ c.in-Untouched.is) c.set_class_state.ensures
    (round_has_room done_step c.args.program.now c.args.thread c.args.machine.now c.loop-k.machine c.args.out.now c.loop-k.out c.init_order-order.result.now c.loop-k.k c.index-order-k.result grown_order (λ b b' x. refl) c.loop-k-test.true c.index-order-k.is
    (subst (λ (l : List _). fits_heap (fold (done_step (moment c.args.program.now c.args.machine.now c.args.thread)) (so_far c.args.machine.now c.args.out.now) l).state.heap ≡ true) (sym c.init_order-order.ensures.value) c.requires.fits) c.loop-k.invariant)

pub loop-k-preserved : goal.loop-k-preserved
loop-k-preserved c =
    round_came done_step c.args.program.now c.args.thread c.args.machine.now c.loop-k.machine c.set_constants.new.machine c.args.out.now c.loop-k.out c.set_constants.new.out c.init_order-order.result.now c.loop-k.k c.index-order-k.result
    (λ b b' x. refl) c.loop-k-test.true c.index-order-k.is c.loop-k.invariant
    (done_came c.args.program.now c.args.thread c.index-order-k.result c.loop-k.machine c.set_class_state.new.self c.set_constants.new.machine c.loop-k.out c.set_constants.new.out (sym c.class_state.ensures ∙ c.in-Untouched.is) c.set_class_state.ensures c.in_ok-set_constants.ensures)

pub loop-k-preserved-in_default : goal.loop-k-preserved-in_default
loop-k-preserved-in_default c =
    round_came done_step c.args.program.now c.args.thread c.args.machine.now c.loop-k.machine c.loop-k.machine c.args.out.now c.loop-k.out c.loop-k.out c.init_order-order.result.now c.loop-k.k c.index-order-k.result
    (λ b b' x. refl) c.loop-k-test.true c.index-order-k.is c.loop-k.invariant
    (stayed (λ x. done_step (moment c.args.program.now c.loop-k.machine c.args.thread) x c.index-order-k.result) c.loop-k.machine c.loop-k.out
    (done_is (moment c.args.program.now c.loop-k.machine c.args.thread) c.index-order-k.result _ (so_far c.loop-k.machine c.loop-k.out) (λ un. c.in_default.not-Untouched (c.class_state.ensures ∙ un))))
