use Rattle.et_refs.proofs.Leading.{write_led}
use Rattle.et_refs.proofs.doing.changes.set_slot.Goals as goal

pub returns-clause-led : goal.returns-clause-led
returns-clause-led g c =
    write_led c.args.machine.now c.args.thread c.args.x.taken c.args.next c.args.x.object c.args.x.slot c.args.x.value _ _ _ _ c.requires.step.sound c.requires.step.frame c.requires.may.object c.requires.may.slot c.requires.may.value c.begin_event.ensures c.set_slot-old.ensures.new c.take.ensures c.set_pc.ensures
