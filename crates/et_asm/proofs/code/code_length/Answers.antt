use Rattle.et_asm.proofs.Stages.{place_more, place_all}
use Rattle.et_asm.proofs.code.code_length.Goals as goal

pub loop-p-preserved : goal.loop-p-preserved
loop-p-preserved c = place_more c.args.symbols.now c.args.body.now c.loop-p.p-index c.p-item.result c.loop-p.at c.in_ok-at.at c.loop-p-test.true c.p-item.is c.in_ok-at.ensures c.loop-p.invariant

pub returns : goal.returns
returns c = place_all c.args.symbols.now c.args.body.now c.loop-p.p-index c.loop-p.at c.loop-p-test.false c.loop-p.invariant
