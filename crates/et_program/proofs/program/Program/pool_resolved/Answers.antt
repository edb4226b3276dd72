use Rattle.et_program.proofs.PoolLemmas.{one_longer, kept_more}
use Rattle.et_program.proofs.program.Program.pool_resolved.Goals as goal

pub loop-index-preserved : goal.loop-index-preserved
loop-index-preserved c = record {
  size = one_longer c.loop-index.entries.items c.push.new.self.items _ c.loop-index.index c.in_ok-push.ensures.items c.loop-index.invariant.size;
  each = kept_more c.args.self.now c.args.class c.loop-index.index c.loop-index.entries.items c.push.new.self.items c.entry_resolved.result c.in_ok-push.ensures.items c.loop-index.invariant.size c.entry_resolved.ensures c.loop-index.invariant.each;
}
