use Rattle.std.proofs.Common.{reverse, take}
use Rattle.et_state.specs.Words.{top}
use Rattle.et_builtins.proofs.Passing.{Passing}
use Rattle.et_builtins.proofs.arguments.are_of.Given as goal

abbrev pub invariant-loop-kind : goal.invariant-loop-kind
invariant-loop-kind l = Passing l.kinds (reverse (take l.count (top l.machine.guest l.thread).operands)) l.from l.kind-index l.at
