-- The objects so far are swept, up to the next one.
use Rattle.std.proofs.Common.{◌≡◌, ◌+◌, ◌≤◌, ◌++◌, drop, get_or, length, vec_capacity}
use Rattle.et_heap.specs.Cleared.{cleared_references}
use Rattle.et_flush.specs.Ranks.{time_of}
use Rattle.et_flush.specs.Sweeps.{is_now, visits_from}
use Rattle.et_flush.proofs.Sweeping.{swept}
use Rattle.et_flush.proofs.sweep.sweep.Given as goal

abbrev pub invariant-loop-i : goal.invariant-loop-i
invariant-loop-i g l = let next = get_or l.held l.i (length l.fn.heap) in record {
  heap : l.heap ≡ swept (is_now (time_of l.ranks l.times)) next 0 l.fn.heap;
  cleared : l.cleared.items ++ cleared_references (is_now (time_of l.ranks l.times)) next (drop next l.fn.heap) ≡ cleared_references (is_now (time_of l.ranks l.times)) 0 l.fn.heap;
  few : length l.cleared.items ≤ l.i;
  room : vec_capacity l.fn.cleared ≤ vec_capacity l.cleared;
  visits : l.visits + visits_from (is_now (time_of l.ranks l.times)) next (drop next l.fn.heap) ≤ l.fn.visits + visits_from (is_now (time_of l.ranks l.times)) 0 l.fn.heap;
}
