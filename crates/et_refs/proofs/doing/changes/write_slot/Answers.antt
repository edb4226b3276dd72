use Rattle.std.proofs.Common.{ℕ, ◌+◌, [], ◌∙◌, ap, subst}
use Rattle.et_heap.specs.Objects.{object_at, slot_of, with_object_at, with_slot}
use Rattle.et_state.specs.Moves.{Led}
use Rattle.et_state.specs.State.{MachineState, kept_of}
use Rattle.et_state.specs.Words.{ticked, top, with_top}
use Rattle.et_event.proofs.Taking.{replaced}
use Rattle.et_refs.proofs.Ending.{write_answers}
use Rattle.et_refs.proofs.doing.changes.write_slot.Goals as goal

pub returns-clause-ok : goal.returns-clause-ok
returns-clause-ok g c =
    let m : MachineState = c.args.machine.now in
    let x = c.args.x in
    write_answers c.args.program.now c.args.place.now.site c.args.thread c.args.x.taken c.args.x.object c.args.x.slot (c.clock-event.result + 1) c.slot_value-old.result c.args.x.value c.args.machine.now _ c.args.out.now _
    (ap (λ (n : ℕ). n + 1) c.clock-event.ensures) (c.slot_value-old.ensures.value ∙ ap (λ (m : MachineState). slot_of (object_at m.heap c.args.x.object) c.args.x.slot) c.machine.view_is) c.in_ok-tell_update.ensures.ok
    (subst (λ (n : ℕ). Led (kept_of m) (record { heap = with_object_at m.heap x.object (with_slot x.slot x.value (object_at m.heap x.object)); guest = with_top (ticked m.guest) c.args.thread (replaced x.taken [] n (top m.guest c.args.thread)) }) c.set_slot.new.machine) c.next.ensures c.set_slot.ensures.led)
