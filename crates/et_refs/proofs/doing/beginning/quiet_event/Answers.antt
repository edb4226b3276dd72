use Rattle.std.proofs.Common.{ℕ, true, subst}
use Rattle.et_initialize.proofs.Needing.{quiet}
use Rattle.et_initialize.proofs.Stepping.{has_frame_on}
use Rattle.et_refs.specs.Accesses.{Accesses}
use Rattle.et_refs.proofs.Carrying.{can_access, accessed_answers, base_threads}
use Rattle.et_refs.proofs.Quiet.{quietly_initialized, room_asked}
use Rattle.et_refs.proofs.doing.beginning.quiet_event.Goals as goal

pub carry_out-requires-clause-frame : goal.carry_out-requires-clause-frame
carry_out-requires-clause-frame c =
    let p = c.args.program.now in
    let m = c.args.machine.now in
    let done = quietly_initialized p c.args.thread c.args.wanted.now.class m c.requires.access.order c.requires.access.initializers c.requires.access.may.class c.requires.access.sound in
    has_frame_on m.guest c.begin_quietly.new.machine.guest c.args.thread (base_threads p m c.begin_quietly.new.machine (quiet p c.args.thread m c.args.wanted.now.class) done c.in_ok-begin_quietly.ensures.machine) c.requires.access.frame

pub carry_out-requires-clause-can : goal.carry_out-requires-clause-can
carry_out-requires-clause-can c =
    let p = c.args.program.now in
    let m = c.args.machine.now in
    let d = quiet p c.args.thread m c.args.wanted.now.class in
    let done = quietly_initialized p c.args.thread c.args.wanted.now.class m c.requires.access.order c.requires.access.initializers c.requires.access.may.class c.requires.access.sound in
    can_access p c.args.thread m c.begin_quietly.new.machine d c.args.wanted.now done c.requires.access.may
    (room_asked d.state.heap _ _ c.objects_made-objects.result c.slots_made-slots.result c.objects_made-objects.ensures c.slots_made-slots.ensures c.in_ok-quiet_fits.field-0 true (c.in_ok-quiet_fits.ensures c.args.thread) c.if-not-branch.false) c.in_ok-begin_quietly.ensures.machine

pub returns : goal.returns
returns c =
    let p = c.args.program.now in
    let m = c.args.machine.now in
    let d = quiet p c.args.thread m c.args.wanted.now.class in
    let done = quietly_initialized p c.args.thread c.args.wanted.now.class m c.requires.access.order c.requires.access.initializers c.requires.access.may.class c.requires.access.sound in
    accessed_answers p c.args.thread c.args.place.now.site c.args.wanted.now m c.begin_quietly.new.machine c.carry_out.new.machine d c.args.out.now c.begin_quietly.new.out c.carry_out.new.out c.requires.access.sound.held c.requires.access.frame done c.requires.access.may
    (room_asked d.state.heap _ _ c.objects_made-objects.result c.slots_made-slots.result c.objects_made-objects.ensures c.slots_made-slots.ensures c.in_ok-quiet_fits.field-0 true (c.in_ok-quiet_fits.ensures c.args.thread) c.if-not-branch.false)
    c.in_ok-begin_quietly.ensures.machine c.in_ok-begin_quietly.ensures.records
    (subst (λ (n : ℕ). Accesses p c.args.thread n c.args.wanted.now.class c.args.wanted.now.access c.begin_quietly.new.machine c.carry_out.new.machine c.begin_quietly.new.out c.carry_out.new.out) c.next.ensures c.in_ok-carry_out.ensures)
