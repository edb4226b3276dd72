-- The first stops have their parts.
use Rattle.std.proofs.Common.{◌≡◌, ℕ, Bool, List, length}
use Rattle.std.specs.Prelude.{All}
use Rattle.et_hierarchy.specs.Links.{LinkEntry}
use Rattle.et_hierarchy.specs.Ancestry.{Ancestry}
use Rattle.et_hierarchy.specs.Orders.{IsStop, AreOrders, OrdersGrow}
use Rattle.et_hierarchy.proofs.order.give.Given as goal

abbrev pub invariant-loop-stop : goal.invariant-loop-stop
invariant-loop-stop l = record {
  long : length l.orders.items ≡ length l.fn.orders.items;
  grow : (needs : ℕ → Bool) (table : List LinkEntry) (rows : List Ancestry) → AreOrders needs table rows l.fn.orders.items → All (IsStop needs table rows l.list) l.stops → OrdersGrow needs table rows l.fn.orders.items l.orders.items;
}
