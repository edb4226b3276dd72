use Rattle.std.proofs.Common.{◌≡◌, ◌+◌, ◌-◌, ◌++◌, [], length, drop}
use Rattle.et_state.specs.Words.{HasFrame, top, steps_top}
use Rattle.et_event.proofs.operands.give.Given as goal

abbrev pub invariant-loop-k : goal.invariant-loop-k
invariant-loop-k l = record {
  is : l.machine ≡ steps_top l.fn.machine l.thread (record (top l.fn.machine.guest l.thread) { operands = drop (length l.values - l.k) l.values ++ (top l.fn.machine.guest l.thread).operands }) [];
  has : HasFrame l.machine.guest l.thread;
  put : length (top l.machine.guest l.thread).operands ≡ length (top l.fn.machine.guest l.thread).operands + l.k;
  room : (top l.machine.guest l.thread).room ≡ (top l.fn.machine.guest l.thread).room;
}
