use Rattle.std.proofs.Common.{arith}
use Rattle.et_program.proofs.PoolLemmas.{one_longer}
use Rattle.et_program.proofs.ShapeLemmas.{pools_more}
use Rattle.et_program.proofs.shapes.shapes_of.Goals as goal

pub loop-pool-preserved : goal.loop-pool-preserved
loop-pool-preserved c = record {
  size = one_longer c.loop-pool.shapes.items c.push.new.self.items _ c.loop-pool.pool-index c.in_ok-push.ensures.items c.loop-pool.invariant.size;
  each = pools_more c.args.pools.now c.loop-pool.pool-index c.pool-item.result c.loop-pool.shapes.items c.push.new.self.items _ (omega arith) c.pool-item.is c.in_ok-push.ensures.items c.loop-pool.invariant.size c.in_ok-pool_shapes.ensures c.loop-pool.invariant.each;
}
