use Rattle.std.proofs.Common.{ℕ, List, length, ◌∙◌, ap}
use Rattle.std.specs.List.{flat_map}
use Rattle.et_hierarchy.specs.Ancestry.{added_all, ancestry_at}
use Rattle.et_hierarchy.proofs.AddLemmas.{field_order_is}
use Rattle.et_hierarchy.proofs.Repeats.{once_leads, once_within}
use Rattle.et_hierarchy.proofs.tables.searched.Goals as goal

pub add_field_orders-requires : goal.add_field_orders-requires
add_field_orders-requires c = once_within (length c.args.rows.now) c.args.links.now.interfaces _ _ c.requires.interfaces c.interfaces.ensures (c.as_slice.ensures.value ∙ c.in_ok-interfaces.ensures)

pub returns : goal.returns
returns c =
    field_order_is c.args.links.now c.args.rows.now c.args.class _ c.interfaces.result.now _ _ _ _ c.above-above.ensures c.interfaces.ensures
    c.clear.ensures c.in_ok-add.ensures
    (c.in_ok-add_field_orders.ensures
    ∙ (ap (λ is. added_all c.add.new.self (flat_map (λ i. (ancestry_at c.args.rows.now i).field_order) is)) (c.as_slice.ensures.value ∙ c.in_ok-interfaces.ensures) ∙ once_leads (λ i. (ancestry_at c.args.rows.now i).field_order) c.add.new.self c.interfaces.result.now))
    (c.in_ok-order.ensures ∙ (c.in_ok-found.ensures.items ∙ (c.as_slice-2.ensures ∙ (c.in_ok-add_each.ensures ∙ ap (λ (xs : List ℕ). added_all c.add_field_orders.new.list xs) c.field_order_over.ensures))))
