use Rattle.et_throw.proofs.Thrown.{thrown_led}
use Rattle.et_throw.proofs.throwing.throw_object.Goals as goal

pub returns : goal.returns
returns c = thrown_led c.args.machine.now c.args.thread c.args.exception _ _ c.requires.sound c.requires.frame c.requires.held c.begin_event.ensures c.throw.ensures.new
