use Rattle.std.proofs.Common.{◌<◌, length, set, sym, ◌∙◌, subst, arith}
use Rattle.std.proofs.lemmas.List.{length-set}
use Rattle.et_hierarchy.specs.Orders.{IsStop, OrdersGrow}
use Rattle.et_hierarchy.proofs.OrderParts.{grow_set}
use Rattle.et_hierarchy.proofs.order.give.Goals as goal

pub loop-stop-preserved : goal.loop-stop-preserved
loop-stop-preserved c =
    let lt : c.loop-stop.stop-index < length c.args.stops.now = omega arith in
    record {
      long = length-set _ _ _ ∙ c.loop-stop.invariant.long;
      grow = λ needs table rows are stops.
          let g = c.loop-stop.invariant.grow needs table rows are stops in
          let s : IsStop needs table rows c.args.list.now c.stop-item.result = subst (IsStop needs table rows c.args.list.now) (sym c.stop-item.is) (stops c.loop-stop.stop-index c.stop-item.result lt) in
          subst (λ k. OrdersGrow needs table rows c.args.orders.now.items (set c.loop-stop.orders.items k c.in_ok-orders.field-0)) (sym c.number.ensures.value)
          (grow_set needs table rows c.args.orders.now.items c.loop-stop.orders.items c.stop-item.result.class c.in_ok-orders.field-0 g (omega (arith, s.class, g.orders.each)) (c.in_ok-orders.ensures ∙ s.before));
    }
