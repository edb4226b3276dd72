-- The ranks so far, but those of what was reached, are the sources.
use Rattle.std.proofs.Common.{◌≤◌, length, vec_capacity}
use Rattle.et_flush.proofs.Ordering.{AreSourcesTo}
use Rattle.et_flush.proofs.order.list_sources.Given as goal

abbrev pub invariant-loop-i : goal.invariant-loop-i
invariant-loop-i l = record {
  few : length l.order.items ≤ l.i;
  sources : AreSourcesTo l.times l.reached l.i l.order.items;
  room : vec_capacity l.fn.order ≤ vec_capacity l.order;
}
