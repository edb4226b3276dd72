use Rattle.std.proofs.Common.{◌∙◌, sym, ap, subst, ℕ, List, length, ◌<◌, arith}
use Rattle.et_hierarchy.specs.Links.{LinkEntry, IsAcyclic, HasLinksWithin}
use Rattle.et_hierarchy.specs.Ancestry.{Ancestry, ancestry_at, IsAncestry, IsBelow}
use Rattle.et_link.proofs.LinkingLemmas.{rows_below, above_known, orders_known}
use Rattle.et_link.proofs.linking.know.Goals as goal

pub slots_above-requires : goal.slots_above-requires
slots_above-requires c = rows_below (length c.args.set.now) c.in_ok-own.own.items _ c.args.hierarchy.rows.items _ c.as_slice.ensures.value c.in_ok-own.ensures.length c.as_slice-2.ensures.value c.requires.rows c.requires.below

pub returns-clause-above : goal.returns-clause-above
returns-clause-above c =
    above_known c.args.fields.now (length c.args.set.now) c.in_ok-own.own.items _ c.args.hierarchy.rows.items _ c.as_slice.ensures.value c.as_slice-2.ensures.value c.requires.rows c.requires.below c.in_ok-own.ensures.slots c.in_ok-above.above.items c.in_ok-above.ensures.slots

pub returns-clause-sized : goal.returns-clause-sized
returns-clause-sized c =
    let t = sym c.requires.table in
    record {
      rows = c.requires.rows ∙ t;
      flags = c.requires.flags ∙ t;
      own = c.in_ok-own.ensures.length ∙ t;
      orders = c.in_ok-orders.ensures.each ∙ ap length c.as_slice-4.ensures.value;
      above = c.in_ok-above.ensures.length ∙ (ap length c.as_slice-2.ensures.value ∙ (c.requires.rows ∙ t));
      initializers = c.in_ok-initializers.ensures.length ∙ t;
      constants = c.in_ok-constants.ensures.length ∙ t;
      within = subst (λ n. HasLinksWithin n c.args.hierarchy.table.items) t c.requires.within;
      below = subst (λ n. (k : ℕ) → k < n → IsBelow n (ancestry_at c.args.hierarchy.rows.items k)) t c.requires.below;
      order = orders_known c.in_ok-needs.needs.items c.args.hierarchy.table.items c.args.hierarchy.rows.items _ _ _ c.in_ok-orders.orders.items c.as_slice-3.ensures.value c.as_slice-4.ensures.value c.as_slice-5.ensures.value c.in_ok-orders.ensures.order;
    }

pub class_orders-requires-clause-few : goal.class_orders-requires-clause-few
class_orders-requires-clause-few c = omega (arith, ap length c.as_slice-4.ensures.value, c.requires.table, c.requires.few)

pub class_orders-requires-clause-within : goal.class_orders-requires-clause-within
class_orders-requires-clause-within c =
    subst (λ (t : List LinkEntry). HasLinksWithin (length t) t) (sym c.as_slice-4.ensures.value)
    (subst (λ n. HasLinksWithin n c.args.hierarchy.table.items) (sym c.requires.table) c.requires.within)

pub class_orders-requires-clause-acyclic : goal.class_orders-requires-clause-acyclic
class_orders-requires-clause-acyclic c = subst IsAcyclic (sym c.as_slice-4.ensures.value) c.requires.acyclic

pub class_orders-requires-clause-rows : goal.class_orders-requires-clause-rows
class_orders-requires-clause-rows c =
    subst (λ (t : List LinkEntry). IsAncestry t c.as_slice-5.result.now) (sym c.as_slice-4.ensures.value)
    (subst (λ (r : List Ancestry). IsAncestry c.args.hierarchy.table.items r) (sym c.as_slice-5.ensures.value) c.requires.ancestry)
