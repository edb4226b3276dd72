use Rattle.std.proofs.Common.{◌≡◌, ◌+◌, ◌≤◌, length}
use Rattle.std.proofs.Common.{take as first}
use Rattle.et_heap.specs.Refs.{refs_of}
use Rattle.et_state.specs.Threads.{popped}
use Rattle.et_state.specs.Running.{steps_running}
use Rattle.et_ops.proofs.operands.take.Given as goal

abbrev pub invariant-loop : goal.invariant-loop
invariant-loop l = record {
  is : l.running ≡ steps_running l.fn.running (popped l.counter l.fn.running.frame) (refs_of (first l.counter l.fn.running.frame.operands));
  left : length l.running.frame.operands + l.counter ≡ length l.fn.running.frame.operands;
  lost : length l.running.lost ≤ length l.fn.running.lost + l.counter;
}
