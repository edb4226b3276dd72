use Rattle.et_refs.proofs.Over.{exchanged_is}
use Rattle.et_refs.proofs.slots.reads.exchange.Goals as goal

pub returns : goal.returns
returns c =
    exchanged_is c.args.running.now c.args.x c.args.next _ _ _ _ c.begin_instruction.ensures.frame c.begin_instruction.ensures.below c.begin_instruction.ensures.lost c.take.ensures c.give_value.ensures c.set_pc.ensures
