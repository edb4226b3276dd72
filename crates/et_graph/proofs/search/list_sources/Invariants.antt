-- The objects so far, and those to come, are all.
use Rattle.std.proofs.Common.{◌≡◌, ◌+◌, ◌≤◌, ◌++◌, length, drop, vec_capacity}
use Rattle.et_graph.specs.Order.{sources}
use Rattle.et_graph.proofs.search.list_sources.Given as goal

abbrev pub invariant-loop-time : goal.invariant-loop-time
invariant-loop-time l = record {
  object : l.object ≡ l.time-index;
  long : length l.order.items ≡ l.time-index;
  room : length l.times ≤ vec_capacity l.order;
  sources : l.order.items ++ sources (l.time-index + 1) (drop l.time-index l.times) ≡ sources 1 l.times;
}
