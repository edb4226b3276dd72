use Rattle.et_event.specs.Checks.{entries_of}
use Rattle.et_refs.proofs.Leading.{replaced_top}
use Rattle.et_refs.proofs.doing.changes.replace_top.Goals as goal

pub returns : goal.returns
returns c =
    replaced_top c.args.machine.now c.args.thread c.args.taken c.args.next (entries_of c.args.value) _ _ _ c.requires.frame.thread c.take.ensures c.give_value.ensures c.set_pc.ensures
