use Rattle.std.proofs.Common.{arith}
use Rattle.et_asm.specs.Pool.{catch_entries}
use Rattle.et_asm.proofs.Added.{loop_more, loop_all, added_none}
use Rattle.et_asm.proofs.uses.add_all_caught.Goals as goal

pub loop-p-preserved : goal.loop-p-preserved
loop-p-preserved c = loop_more (λ p. catch_entries p.line) c.args.body.now c.loop-p.p-index c.p-item.result c.loop-p.pool.keys c.add_caught.new.pool.keys c.args.pool.now.keys c.loop-p-test.true c.p-item.is c.in_ok-add_caught.ensures c.loop-p.invariant

pub returns : goal.returns
returns c = loop_all (λ p. catch_entries p.line) c.args.body.now c.loop-p.p-index c.loop-p.pool.keys c.args.pool.now.keys c.loop-p-test.false c.loop-p.invariant

pub loop-p-init : goal.loop-p-init
loop-p-init c = added_none c.args.pool.now.keys
