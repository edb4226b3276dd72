use Rattle.std.proofs.Common.{arith}
use Rattle.et_link.proofs.SlotLemmas.{supers_below}
use Rattle.et_link.proofs.members.slots.slots_above.Goals as goal

pub sum_of-requires : goal.sum_of-requires
sum_of-requires c = supers_below c.args.rows.now c.loop-row.row-index c.row-item.result _ _ (omega arith) c.row-item.is c.supers.ensures c.requires
