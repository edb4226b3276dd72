use Rattle.et_asm.specs.Symbols.{places}
use Rattle.et_asm.specs.Code.{row_bytes}
use Rattle.et_asm.proofs.Loops.{put_more, put_all}
use Rattle.et_asm.proofs.code.put_rows.Goals as goal

pub loop-p-preserved : goal.loop-p-preserved
loop-p-preserved c = put_more (λ p. row_bytes c.args.symbols.now (places c.args.labels.now.entries) p.line) c.args.body.now c.loop-p.p-index c.p-item.result c.loop-p.out.items c.put_row.new.out.items c.args.out.now.items c.loop-p-test.true c.p-item.is c.in_ok-put_row.ensures c.loop-p.invariant

pub returns : goal.returns
returns c = put_all (λ p. row_bytes c.args.symbols.now (places c.args.labels.now.entries) p.line) c.args.body.now c.loop-p.p-index c.loop-p.out.items c.args.out.now.items c.loop-p-test.false c.loop-p.invariant
