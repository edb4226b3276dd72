use Rattle.std.proofs.Common.{ℕ, Bool, false, sym, subst, arith}
use Rattle.std.specs.Prelude.{All}
use Rattle.std.specs.List.{slice_index_or}
use Rattle.et_hierarchy.specs.Orders.{IsStop}
use Rattle.et_hierarchy.proofs.OrderParts.{grow_set}
use Rattle.et_hierarchy.proofs.order.make_order.Goals as goal

pub returns-clause-grow : goal.returns-clause-grow
returns-clause-grow c =
    let needs : ℕ → Bool = λ k. slice_index_or c.args.needs.now k false in
    let table = c.args.table.now in
    let rows = c.args.rows.now in
    let g = c.in_ok-give.ensures.grow needs table rows c.requires.orders (subst (All (IsStop needs table rows c.in_ok-list.list)) (sym c.as_slice-2.ensures.value) c.in_ok-list.ensures.stops) in
    grow_set needs table rows c.args.orders.now.items c.give.new.orders.items c.args.class c.in_ok-list.list g (omega (arith, g.orders.each, c.requires.class)) c.in_ok-list.ensures.list
