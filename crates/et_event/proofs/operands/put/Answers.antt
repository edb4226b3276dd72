use Rattle.et_state.specs.Words.{top}
use Rattle.et_event.proofs.Taking.{replaced_led, are_in}
use Rattle.et_event.proofs.operands.put.Goals as goal

pub returns : goal.returns
returns c =
    replaced_led c.args.machine.now c.args.thread c.args.taken c.args.pc c.args.values.now _ _ _ _ c.requires.sound c.requires.frame (are_in (top c.args.machine.now.guest c.args.thread) c.args.values.now c.requires.there) c.begin_event.ensures c.take.ensures c.give.ensures c.set_pc.ensures
