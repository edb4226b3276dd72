use Rattle.std.proofs.Common.{ap, ◌+◌, ◌∙◌, arith}
use Rattle.et_asm.proofs.Indices.{behind_more, indices_more, behind_all, counted_more}
use Rattle.et_asm.proofs.symbols.indices.Goals as goal

pub returns-clause-counted : goal.returns-clause-counted
returns-clause-counted c = omega (arith, c.loop-e.invariant.counted)

pub returns-clause-indices : goal.returns-clause-indices
returns-clause-indices c = λ i lt. c.loop-e.invariant.indices i (omega arith)

pub returns-clause-behind : goal.returns-clause-behind
returns-clause-behind c = behind_all c.args.entries.now c.loop-e.e-index c.loop-e.next c.loop-e-test.false c.loop-e.invariant.next

pub loop-e-preserved : goal.loop-e-preserved
loop-e-preserved c = record {
  counted = counted_more c.loop-e.e-index c.loop-e.indices.items _ c.loop-e.next c.in_ok-push.ensures.items c.loop-e.invariant.counted;
  next = behind_more c.args.entries.now c.loop-e.e-index c.e-item.result c.loop-e.next _ c.loop-e-test.true c.e-item.is (c.in_ok-next.ensures ∙ ap (λ w. c.loop-e.next + w) c.width.ensures.value) c.loop-e.invariant.next;
  indices = indices_more c.args.entries.now c.loop-e.e-index c.loop-e.indices.items _ c.loop-e.next c.in_ok-push.ensures.items c.loop-e.invariant.counted c.loop-e.invariant.next c.loop-e.invariant.indices;
}
