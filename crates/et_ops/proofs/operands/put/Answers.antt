use Rattle.et_event.proofs.Taking.{are_in}
use Rattle.et_ops.proofs.InFrame.{replaced_steps}
use Rattle.et_ops.proofs.operands.put.Goals as goal

pub returns : goal.returns
returns c =
    let b = c.args.running.now in
    replaced_steps b c.args.taken c.args.pc c.args.values.now _ _ _ _ (are_in b.frame c.args.values.now c.requires.there)
    c.begin_instruction.ensures.frame c.begin_instruction.ensures.below c.begin_instruction.ensures.lost c.take.ensures c.give.ensures c.set_pc.ensures
