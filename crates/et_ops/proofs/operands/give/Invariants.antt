use Rattle.std.proofs.Common.{◌≡◌, ◌+◌, ◌-◌, ◌++◌, [], length, drop}
use Rattle.et_state.specs.Running.{steps_running}
use Rattle.et_ops.proofs.operands.give.Given as goal

abbrev pub invariant-loop-k : goal.invariant-loop-k
invariant-loop-k l = record {
  is : l.running ≡ steps_running l.fn.running (record l.fn.running.frame { operands = drop (length l.values - l.k) l.values ++ l.fn.running.frame.operands }) [];
  put : length l.running.frame.operands ≡ length l.fn.running.frame.operands + l.k;
  room : l.running.frame.room ≡ l.fn.running.frame.room;
}
