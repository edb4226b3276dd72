use Rattle.et_ops.proofs.Storing.{moved_steps}
use Rattle.et_ops.proofs.stores.move_one.Goals as goal

pub returns : goal.returns
returns c =
    moved_steps c.args.running.now c.args.i c.args.next c.pop-value.result _ _ _ _ _ c.requires.operand c.requires.local c.begin_instruction.ensures.frame c.begin_instruction.ensures.below c.begin_instruction.ensures.lost c.pop-value.ensures.value c.pop-value.ensures.new c.free.ensures.new c.set_local.ensures.new c.set_pc.ensures
