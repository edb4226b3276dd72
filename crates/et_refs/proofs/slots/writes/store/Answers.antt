use Rattle.et_refs.proofs.Storing.{taken_is}
use Rattle.et_refs.proofs.slots.writes.store.Goals as goal

pub returns-clause-frame : goal.returns-clause-frame
returns-clause-frame g c =
    taken_is c.args.running.now c.args.x c.args.next _ _ _ c.begin_instruction.ensures.frame c.begin_instruction.ensures.below c.begin_instruction.ensures.lost c.take.ensures c.set_pc.ensures
