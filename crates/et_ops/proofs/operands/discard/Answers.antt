use Rattle.et_ops.proofs.InFrame.{discarded_steps}
use Rattle.et_ops.proofs.operands.discard.Goals as goal

pub returns : goal.returns
returns c =
    discarded_steps c.args.running.now c.args.taken c.args.pc _ _ _ c.begin_instruction.ensures.frame c.begin_instruction.ensures.below c.begin_instruction.ensures.lost c.take.ensures c.set_pc.ensures
