use Rattle.std.proofs.Common.{ℕ, Bool, false, refl, ◌∙◌}
use Rattle.std.specs.List.{slice_index_or}
use Rattle.et_hierarchy.specs.Initialization.{with_interfaces}
use Rattle.et_hierarchy.proofs.OrderParts.{supers_within, order_begun, stops_on, whole_order}
use Rattle.et_hierarchy.proofs.order.whole_list.Goals as goal

pub count_missing-missing-requires : goal.count_missing-missing-requires
count_missing-missing-requires c =
    supers_within c.args.table.now c.args.rows.now c.requires.rows c.requires.within c.args.class _ _ c.requires.class c.supers_of-supers.ensures c.requires.orders.each

pub begin_order-requires : goal.begin_order-requires
begin_order-requires c =
    supers_within c.args.table.now c.args.rows.now c.requires.rows c.requires.within c.args.class _ _ c.requires.class c.supers_of-supers.ensures c.requires.orders.each

pub add_supers-requires-clause-begun : goal.add_supers-requires-clause-begun
add_supers-requires-clause-begun c =
    let needs : ℕ → Bool = λ k. slice_index_or c.args.needs.now k false in
    order_begun needs c.args.table.now c.args.rows.now c.requires.rows c.requires.within c.args.class c.count_missing-missing.result c.args.orders.now c.requires.class c.requires.orders _ _ _ c.begin_order.new.list c.supers_of-supers.ensures refl refl
    c.count_missing-missing.ensures.found c.in_ok-begin_order.ensures.over c.in_ok-begin_order.ensures.none

pub returns-clause-list : goal.returns-clause-list
returns-clause-list c =
    let needs : ℕ → Bool = λ k. slice_index_or c.args.needs.now k false in
    whole_order needs c.args.table.now c.args.rows.now c.args.class c.add_supers.new.work.order c.in_ok-list.list c.in_ok-stops.ensures.order
    (c.in_ok-list.ensures ∙ (c.in_ok-classes.ensures.items ∙ (c.as_slice.ensures ∙ c.in_ok-add_class.ensures)))

pub returns-clause-stops : goal.returns-clause-stops
returns-clause-stops c =
    let needs : ℕ → Bool = λ k. slice_index_or c.args.needs.now k false in
    stops_on needs c.args.table.now c.args.rows.now c.add_supers.new.work.order c.in_ok-list.list (with_interfaces needs c.args.table.now c.args.rows.now c.args.class) c.in_ok-stops.stops.items
    (c.in_ok-list.ensures ∙ (c.in_ok-classes.ensures.items ∙ (c.as_slice.ensures ∙ c.in_ok-add_class.ensures))) c.in_ok-stops.ensures.stops
