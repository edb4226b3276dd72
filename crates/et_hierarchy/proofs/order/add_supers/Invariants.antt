-- The superclasses from the topmost down to this one are added.
use Rattle.std.proofs.Common.{◌≡◌, false, drop}
use Rattle.std.specs.Prelude.{All}
use Rattle.std.specs.List.{slice_index_or}
use Rattle.et_hierarchy.specs.Orders.{order_down, IsStop}
use Rattle.et_hierarchy.proofs.order.add_supers.Given as goal

abbrev pub invariant-loop-i : goal.invariant-loop-i
invariant-loop-i l = record {
  order : l.work.order ≡ order_down (λ k. slice_index_or l.needs k false) l.table l.rows (drop l.i l.supers);
  stops : All (IsStop (λ k. slice_index_or l.needs k false) l.table l.rows l.work.order) l.stops.items;
}
