use Rattle.et_refs.proofs.Leading.{put_led}
use Rattle.et_refs.proofs.doing.changes.put_value.Goals as goal

pub returns : goal.returns
returns c =
    put_led c.args.machine.now c.args.thread c.args.x.taken c.args.next c.args.x.value _ _ c.requires.step.sound c.requires.step.frame c.requires.may.held c.begin_event.ensures c.replace_top.ensures
