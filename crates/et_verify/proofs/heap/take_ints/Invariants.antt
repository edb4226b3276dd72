-- What is to be taken, so far and yet to come.
use Rattle.std.proofs.Common.{◌≡◌, ◌-◌}
use Rattle.std.specs.Prelude.{replicate}
use Rattle.et_class.specs.PoolOperands.Operand.TheVariants as kinds
use Rattle.et_verify.specs.Steps.{below_taken}
use Rattle.et_verify.proofs.heap.take_ints.Given as goal

abbrev pub invariant-loop-int : goal.invariant-loop-int
invariant-loop-int l = record {
  operands : below_taken (replicate l.count kinds.Int) l.fn.types.operands ≡ below_taken (replicate (l.count - l._int) kinds.Int) l.types.operands;
  locals : l.types.locals ≡ l.fn.types.locals;
}
