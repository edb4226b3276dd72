use Rattle.std.proofs.Common.{◌∙◌}
use Rattle.et_verify.proofs.Invoked.{int_taken}
use Rattle.et_verify.proofs.heap.take_ints.Goals as goal

pub loop-int-preserved : goal.loop-int-preserved
loop-int-preserved c = record {
  operands = c.loop-int.invariant.operands ∙ int_taken c.args.count c.loop-int._int c.loop-int.types.operands c.take.new.types.operands c.loop-int-test.true (c.take.ensures.done c.if-not-take.false);
  locals = c.take.ensures.locals ∙ c.loop-int.invariant.locals;
}
