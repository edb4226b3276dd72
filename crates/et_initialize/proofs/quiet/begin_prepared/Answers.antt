use Rattle.std.proofs.Common.{◌≡◌, ◌<◌, ◌≤◌, ℕ, List, length, take, refl, sym, ◌∙◌, ap, subst, arith}
use Rattle.std.proofs.lemmas.List.{take_all}
use Rattle.et_state.specs.Threads.{lost_room}
use Rattle.et_state.specs.declared.class_state.ClassState.{ClassState}
use Rattle.et_state.specs.State.{MachineState}
use Rattle.et_event.specs.Initialization.{prepared, quietly_if_untouched}
use Rattle.et_event.specs.Moments.{moment, fits_heap}
use Rattle.et_event.specs.Telling.{so_far, StandsAt}
use Rattle.et_initialize.proofs.Beginning.{begin_ready, begin_lost}
use Rattle.et_initialize.proofs.Preparing.{grown_prepared, pre_is, pre_ready, pre_step}
use Rattle.et_initialize.proofs.Running.{next_within, round_has_room, round_came, stayed}
use Rattle.et_initialize.proofs.Stepping.{prepared_came, prepared_fits}
use Rattle.et_initialize.proofs.quiet.begin_prepared.Goals as goal

pub class_state-requires : goal.class_state-requires
class_state-requires c =
    let ready =
    pre_ready c.args.program.now c.args.thread c.begin_event.new.self c.loop-k.machine c.args.out.now c.loop-k.out c.args.classes.now c.loop-k.k c.requires.prepares.order c.requires.prepares.classes
    (begin_ready c.args.program.now c.args.machine.now c.begin_event.new.self c.requires.prepares.sound c.begin_event.ensures) c.loop-k.invariant in
    subst (λ (n : ℕ). c.index-classes-k.result < n) (sym ready.classes)
    (next_within (length c.args.program.now.classes) c.args.classes.now c.loop-k.k c.index-classes-k.result c.loop-k-test.true c.index-classes-k.is c.requires.prepares.classes)

pub set_quietly-requires-clause-class : goal.set_quietly-requires-clause-class
set_quietly-requires-clause-class c = next_within (length c.args.program.now.classes) c.args.classes.now c.loop-k.k c.index-classes-k.result c.loop-k-test.true c.index-classes-k.is c.requires.prepares.classes

pub set_quietly-requires-clause-ready : goal.set_quietly-requires-clause-ready
set_quietly-requires-clause-ready c =
    pre_ready c.args.program.now c.args.thread c.begin_event.new.self c.loop-k.machine c.args.out.now c.loop-k.out c.args.classes.now c.loop-k.k c.requires.prepares.order c.requires.prepares.classes
    (begin_ready c.args.program.now c.args.machine.now c.begin_event.new.self c.requires.prepares.sound c.begin_event.ensures) c.loop-k.invariant

pub set_quietly-requires-clause-lost : goal.set_quietly-requires-clause-lost
set_quietly-requires-clause-lost c = subst (λ (m : MachineState). length m.lost < lost_room) (sym c.loop-k.invariant.0) (begin_lost c.args.machine.now c.begin_event.new.self c.begin_event.ensures)

pub set_quietly-requires-clause-fits : goal.set_quietly-requires-clause-fits
set_quietly-requires-clause-fits c =
    let class = c.index-classes-k.result in
    let m = c.loop-k.machine in
    let whole = prepared_fits c.args.program.now c.args.thread c.args.classes.now c.args.machine.now c.begin_event.new.self c.args.out.now c.begin_event.ensures c.requires.fits in
    let one = round_has_room pre_step c.args.program.now c.args.thread c.begin_event.new.self m c.args.out.now c.loop-k.out c.args.classes.now c.loop-k.k class grown_prepared (λ b b' x. refl) c.loop-k-test.true c.index-classes-k.is whole c.loop-k.invariant in
    ap (λ (s : ClassState). fits_heap (quietly_if_untouched (moment c.args.program.now m c.args.thread) class s (so_far m c.loop-k.out)).state.heap) (sym (sym c.class_state.ensures ∙ c.in-Untouched.is)) ∙ one

pub loop-k-preserved : goal.loop-k-preserved
loop-k-preserved c =
    let class = c.index-classes-k.result in
    let m = c.loop-k.machine in
    round_came pre_step c.args.program.now c.args.thread c.begin_event.new.self m c.set_quietly.new.machine c.args.out.now c.loop-k.out c.set_quietly.new.out c.args.classes.now c.loop-k.k class
    (λ b b' x. refl) c.loop-k-test.true c.index-classes-k.is c.loop-k.invariant
    (subst (λ (s : ClassState). StandsAt (quietly_if_untouched (moment c.args.program.now m c.args.thread) class s (so_far m c.loop-k.out)) m c.set_quietly.new.machine c.set_quietly.new.out) (sym (sym c.class_state.ensures ∙ c.in-Untouched.is)) c.in_ok-set_quietly.ensures)

pub loop-k-preserved-in_default : goal.loop-k-preserved-in_default
loop-k-preserved-in_default c =
    let class = c.index-classes-k.result in
    let m = c.loop-k.machine in
    let e = moment c.args.program.now m c.args.thread in
    round_came pre_step c.args.program.now c.args.thread c.begin_event.new.self m m c.args.out.now c.loop-k.out c.loop-k.out c.args.classes.now c.loop-k.k class
    (λ b b' x. refl) c.loop-k-test.true c.index-classes-k.is c.loop-k.invariant (stayed (λ x. pre_step e x class) m c.loop-k.out (pre_is e class _ (so_far m c.loop-k.out) (λ un. c.in_default.not-Untouched (c.class_state.ensures ∙ un))))

pub returns : goal.returns
returns c =
    let list = c.args.classes.now in
    let all : length list ≤ c.loop-k.k = omega (arith, c.loop-k-test.false) in
    let is : take c.loop-k.k list ≡ list = take_all c.loop-k.k list all in
    let e = moment c.args.program.now c.begin_event.new.self c.args.thread in
    prepared_came c.args.program.now c.args.thread list c.args.machine.now c.begin_event.new.self c.loop-k.machine c.args.out.now c.loop-k.out c.begin_event.ensures
    (subst (λ (ks : List ℕ). StandsAt (prepared e ks (so_far c.begin_event.new.self c.args.out.now)) c.begin_event.new.self c.loop-k.machine c.loop-k.out) is c.loop-k.invariant)
