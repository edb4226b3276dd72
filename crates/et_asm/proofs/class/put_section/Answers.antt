use Rattle.et_asm.specs.Listings.{section_bytes}
use Rattle.et_asm.proofs.Loops.{put_more, put_all}
use Rattle.et_asm.proofs.class.put_section.Goals as goal

pub loop-p-preserved : goal.loop-p-preserved
loop-p-preserved c = put_more (λ p. section_bytes c.args.symbols.now c.args.section p.line) c.args.lines.now c.loop-p.p-index c.p-item.result c.loop-p.out.items c.put_line.new.out.items c.args.out.now.items c.loop-p-test.true c.p-item.is c.in_ok-put_line.ensures c.loop-p.invariant

pub returns : goal.returns
returns c = put_all (λ p. section_bytes c.args.symbols.now c.args.section p.line) c.args.lines.now c.loop-p.p-index c.loop-p.out.items c.args.out.now.items c.loop-p-test.false c.loop-p.invariant
