use Rattle.std.proofs.Common.{◌≡◌, ◌<◌, true, List, length, refl, sym, ap, subst, ◌∙◌}
use Rattle.std.specs.Prelude.{fold}
use Rattle.et_state.specs.Threads.{lost_room}
use Rattle.et_state.specs.State.{MachineState}
use Rattle.et_program.specs.Entries.{ClassInfoOf, class_at}
use Rattle.et_event.specs.Moments.{moment, fits_heap}
use Rattle.et_event.specs.Initialization.{field_set}
use Rattle.et_event.specs.Telling.{so_far}
use Rattle.et_initialize.proofs.Running.{field_can, round_has_room, round_came}
use Rattle.et_initialize.proofs.Setting.{follows_each}
use Rattle.et_initialize.proofs.quiet.set_constants.Goals as goal

pub set_field-requires-clause-writes : goal.set_field-requires-clause-writes
set_field-requires-clause-writes c =
    let fs : c.as_slice-constants.result.now ≡ (class_at c.args.program.now c.args.class).info.constants = c.as_slice-constants.ensures.value ∙ ap (λ (i : ClassInfoOf). i.constants) c.class.ensures.value in
    let can = field_can c.args.program.now c.args.thread c.args.class c.args.machine.now c.loop-k.machine c.args.out.now c.loop-k.out c.as_slice-constants.result.now c.loop-k.k c.index-constants-k.result
    c.requires.sets.order c.requires.class c.requires.sets.ready c.requires.unset fs c.loop-k-test.true c.index-constants-k.is c.loop-k.invariant in
    record { slot = can.slot; unset = can.unset; lost = subst (λ (m : MachineState). length m.lost < lost_room) (sym c.loop-k.invariant.0) c.requires.sets.lost; made = can.made }

pub set_field-requires-clause-fits : goal.set_field-requires-clause-fits
set_field-requires-clause-fits c =
    let fs : c.as_slice-constants.result.now ≡ (class_at c.args.program.now c.args.class).info.constants = c.as_slice-constants.ensures.value ∙ ap (λ (i : ClassInfoOf). i.constants) c.class.ensures.value in
    round_has_room field_set c.args.program.now c.args.thread c.args.machine.now c.loop-k.machine c.args.out.now c.loop-k.out c.as_slice-constants.result.now c.loop-k.k c.index-constants-k.result (λ e js x. (follows_each e js x).heap) (λ b b' x. refl) c.loop-k-test.true c.index-constants-k.is
    (subst (λ (l : List _). fits_heap (fold (field_set (moment c.args.program.now c.args.machine.now c.args.thread)) (so_far c.args.machine.now c.args.out.now) l).state.heap ≡ true) (sym fs) c.requires.fits) c.loop-k.invariant

pub loop-k-preserved : goal.loop-k-preserved
loop-k-preserved c =
    round_came field_set c.args.program.now c.args.thread c.args.machine.now c.loop-k.machine c.set_field.new.machine c.args.out.now c.loop-k.out c.set_field.new.out c.as_slice-constants.result.now c.loop-k.k c.index-constants-k.result
    (λ b b' x. refl) c.loop-k-test.true c.index-constants-k.is c.loop-k.invariant c.in_ok-set_field.ensures
