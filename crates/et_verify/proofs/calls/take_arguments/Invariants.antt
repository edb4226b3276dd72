-- What is to be taken, so far and yet to come.
use Rattle.std.proofs.Common.{◌≡◌, ◌-◌, length, take}
use Rattle.et_verify.specs.Calling.{arguments_taken}
use Rattle.et_verify.proofs.calls.take_arguments.Given as goal

abbrev pub invariant-loop-taken : goal.invariant-loop-taken
invariant-loop-taken l = record {
  operands : arguments_taken l.kinds l.fn.types.operands ≡ arguments_taken (take (length l.kinds - l.taken) l.kinds) l.types.operands;
  locals : l.types.locals ≡ l.fn.types.locals;
}
