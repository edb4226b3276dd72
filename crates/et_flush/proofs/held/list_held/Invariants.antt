-- What is held below the number to go on with is listed.
use Rattle.std.proofs.Common.{◌+◌, ◌-◌, ◌≤◌, vec_capacity}
use Rattle.et_flush.proofs.Holding.{AreHeldBelow}
use Rattle.et_flush.proofs.held.list_held.Given as goal

abbrev pub invariant-loop-from : goal.invariant-loop-from
invariant-loop-from l = record {
  listed : AreHeldBelow l.heap l.from l.held.items;
  room : vec_capacity l.fn.held ≤ vec_capacity l.held;
}

abbrev pub decreases-loop-from : goal.decreases-loop-from
decreases-loop-from l = l.last + 1 - l.from
