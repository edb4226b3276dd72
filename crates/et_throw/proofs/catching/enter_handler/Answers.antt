use Rattle.et_throw.proofs.Caught.{handled_led, handled_loses}
use Rattle.et_throw.proofs.catching.enter_handler.Goals as goal

pub take_pending-requires-clause-lost : goal.take_pending-requires-clause-lost
take_pending-requires-clause-lost c =
    handled_loses c.args.machine.now c.args.thread c.args.exception c.args.handler _ _ _ _ c.requires.small c.begin_event.ensures c.clear_operands.ensures c.push.ensures c.set_pc.ensures

pub returns : goal.returns
returns c =
    handled_led c.args.machine.now c.args.thread c.args.exception c.args.handler _ _ _ _ _ c.requires.sound c.requires.frame c.requires.pending c.begin_event.ensures c.clear_operands.ensures c.push.ensures c.set_pc.ensures c.take_pending.ensures.new
