use Rattle.et_link.proofs.BuiltInLemmas.{no_pool_fault}
use Rattle.et_link.proofs.members.pool_of_boot.Goals as goal

pub unreachable-requires : goal.unreachable-requires
unreachable-requires c = c.in_default.not-NoMemory (no_pool_fault c.args.boot.pool.now c.requires.slots _ c.requires.read c.in-Err.fault c.in-Err.ensures)
