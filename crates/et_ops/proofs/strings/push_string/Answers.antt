use Rattle.et_ops.proofs.Texts.{pushed_led}
use Rattle.et_ops.proofs.strings.push_string.Goals as goal

pub returns : goal.returns
returns c =
    pushed_led c.args.machine.now c.args.thread c.args.object c.args.next _ _ _ c.requires.sound c.requires.frame c.requires.object c.begin_event.ensures c.push.ensures c.set_pc.ensures
