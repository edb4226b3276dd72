-- The orders of the last classes of the sorting are found.
use Rattle.std.proofs.Common.{ℕ, ◌<◌, ◌≤◌, false, length}
use Rattle.std.specs.List.{slice_index_or}
use Rattle.et_hierarchy.specs.Orders.{HasOrder, AreOrders}
use Rattle.et_hierarchy.proofs.order.class_orders.Given as goal

abbrev pub invariant-loop-i : goal.invariant-loop-i
invariant-loop-i l = record {
  orders : AreOrders (λ k. slice_index_or l.needs k false) l.table l.rows l.orders.items;
  done : (j : ℕ) → l.i ≤ j → j < length l.order → HasOrder (λ k. slice_index_or l.needs k false) l.table l.rows l.orders.items (slice_index_or l.order j 0);
}
