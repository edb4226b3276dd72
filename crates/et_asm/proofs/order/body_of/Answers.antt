use Rattle.std.proofs.Common.{sym, ap, ◌∙◌, arith}
use Rattle.et_asm.proofs.Bodies.{body_here, body_more, body_none, body_all}
use Rattle.et_asm.specs.Order.{is_end_line}
use Rattle.et_asm.proofs.order.body_of.Goals as goal

pub returns-then-is_end : goal.returns-then-is_end
returns-then-is_end c = body_none c.args.lines.now c.loop-i.i c.loop-i.invariant (body_here c.args.lines.now c.loop-i.i c.index-lines-i.result c.loop-i-test.true c.index-lines-i.is (ap (λ q. is_end_line q.line) c.index-lines-i.is ∙ (sym c.is_end.ensures ∙ c.if-is_end.true)))

pub loop-i-preserved : goal.loop-i-preserved
loop-i-preserved c = body_more c.args.lines.now c.loop-i.i c.index-lines-i.result c.loop-i-test.true c.index-lines-i.is (ap (λ q. is_end_line q.line) c.index-lines-i.is ∙ (sym c.is_end.ensures ∙ c.if-is_end.false)) c.loop-i.invariant

pub returns : goal.returns
returns c = body_all c.args.lines.now c.loop-i.i c.loop-i-test.false c.loop-i.invariant
