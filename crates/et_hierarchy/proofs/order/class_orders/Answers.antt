use Rattle.std.proofs.Common.{ℕ, Bool, false, length, subst, arith}
use Rattle.std.specs.List.{slice_index_or}
use Rattle.et_hierarchy.specs.Orders.{HasOrder}
use Rattle.et_hierarchy.proofs.OrderedRows.{ordered_all}
use Rattle.et_hierarchy.proofs.order.class_orders.Goals as goal

pub returns-clause-order : goal.returns-clause-order
returns-clause-order c = λ k lt.
    let needs : ℕ → Bool = λ j. slice_index_or c.args.needs.now j false in
    let at = ordered_all c.args.table.now _ c.order-order.result.now _ (length c.order-order.result.now) c.requires.within c.in_ok-sorting.ensures c.order-order.ensures c.requires.acyclic (omega arith) k lt in
    subst (HasOrder needs c.args.table.now c.args.rows.now c.loop-i.orders.items) at.2 (c.loop-i.invariant.done at.0 (omega (arith, c.loop-i-test.false)) at.1)
