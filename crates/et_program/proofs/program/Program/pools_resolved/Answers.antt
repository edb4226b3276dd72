use Rattle.et_program.proofs.PoolLemmas.{one_longer, pools_more}
use Rattle.et_program.proofs.program.Program.pools_resolved.Goals as goal

pub loop-class-preserved : goal.loop-class-preserved
loop-class-preserved c = record {
  size = one_longer c.loop-class.pools.items c.push.new.self.items _ c.loop-class.class c.in_ok-push.ensures.items c.loop-class.invariant.size;
  each = pools_more c.args.self.now c.new.result c.loop-class.class c.loop-class.pools.items c.push.new.self.items _ c.in_ok-push.ensures.items c.loop-class.invariant.size c.new.ensures c.in_ok-pool.ensures c.loop-class.invariant.each;
}
