use Rattle.std.proofs.Common.{◌≡◌, ◌+◌, ◌≤◌, length}
use Rattle.std.proofs.Common.{take as first}
use Rattle.et_heap.specs.Refs.{refs_of}
use Rattle.et_state.specs.Threads.{popped}
use Rattle.et_state.specs.Words.{HasFrame, top, steps_top}
use Rattle.et_event.proofs.operands.take.Given as goal

abbrev pub invariant-loop : goal.invariant-loop
invariant-loop l = record {
  is : l.machine ≡ steps_top l.fn.machine l.thread (popped l.counter (top l.fn.machine.guest l.thread)) (refs_of (first l.counter (top l.fn.machine.guest l.thread).operands));
  has : HasFrame l.machine.guest l.thread;
  left : length (top l.machine.guest l.thread).operands + l.counter ≡ length (top l.fn.machine.guest l.thread).operands;
  lost : length l.machine.lost ≤ length l.fn.machine.lost + l.counter;
}
