use Rattle.std.proofs.Common.{◌<◌, length, get_or, refl, sym, ◌∙◌, ap, subst, arith}
use Rattle.std.proofs.lemmas.List.{get_or_default}
use Rattle.et_hierarchy.proofs.Rounds.{next_above, next_interfaces}
use Rattle.et_hierarchy.proofs.OrderedRows.{ordered_start, ordered_once, ordered_turn, ordered_end, ordered_below, ordered_inside}
use Rattle.et_hierarchy.proofs.UpLemmas.{ordered_upward, ordered_new, ordered_first}
use Rattle.et_hierarchy.proofs.tables.ancestries.Goals as goal

pub lists_upward-requires-clause-order : goal.lists_upward-requires-clause-order
lists_upward-requires-clause-order c = λ i d lt.
    subst (λ x. x < length c.args.table.now) (sym (get_or_default c.order-order.result.now i d 0 lt))
    (ordered_inside c.args.table.now _ _ _ i (length c.args.table.now) c.in_ok-sorting.ensures c.order-order.ensures lt refl)

pub row_of-requires-clause-upward : goal.row_of-requires-clause-upward
row_of-requires-clause-upward c =
    let lt : c.loop-class.class-index < length c.order-order.result.now = omega arith in
    ordered_upward c.args.table.now _ _ _ _ _ c.loop-class.class-index _ _ _ _ c.in_ok-sorting.ensures c.order-order.ensures lt c.loop-class.invariant c.as_slice.ensures.value c.index-table-class.is
    c.in_ok-lists.ensures.length c.in_ok-lists.ensures.upward c.index.ensures c.in_ok-upward.ensures

pub loop-class-init : goal.loop-class-init
loop-class-init c = ordered_start c.args.table.now _ _ c.in_ok-rows.ensures

pub bounds-table-class : goal.bounds-table-class
bounds-table-class c =
    let lt : c.loop-class.class-index < length c.order-order.result.now = omega arith in
    ordered_inside c.args.table.now _ _ _ c.loop-class.class-index (length c.args.table.now) c.in_ok-sorting.ensures c.order-order.ensures lt refl

pub row_of-requires-clause-above : goal.row_of-requires-clause-above
row_of-requires-clause-above c =
    let lt : c.loop-class.class-index < length c.order-order.result.now = omega arith in
    let inside = ordered_inside c.args.table.now _ _ _ c.loop-class.class-index (length c.args.table.now) c.in_ok-sorting.ensures c.order-order.ensures lt refl in
    next_above c.args.table.now _ _ _ c.requires.within inside c.index-table-class.is (ap length c.as_slice.ensures.value ∙ c.loop-class.invariant.rows_length)

pub row_of-requires-clause-interfaces : goal.row_of-requires-clause-interfaces
row_of-requires-clause-interfaces c =
    let lt : c.loop-class.class-index < length c.order-order.result.now = omega arith in
    let inside = ordered_inside c.args.table.now _ _ _ c.loop-class.class-index (length c.args.table.now) c.in_ok-sorting.ensures c.order-order.ensures lt refl in
    next_interfaces c.args.table.now _ _ _ c.requires.within inside c.index-table-class.is (ap length c.as_slice.ensures.value ∙ c.loop-class.invariant.rows_length)

pub row_of-requires-clause-once : goal.row_of-requires-clause-once
row_of-requires-clause-once c =
    let lt : c.loop-class.class-index < length c.order-order.result.now = omega arith in
    ordered_once c.args.table.now _ _ _ _ _ c.loop-class.class-index _ c.in_ok-sorting.ensures c.order-order.ensures lt c.loop-class.invariant c.as_slice.ensures.value c.index-table-class.is

pub index_mut-requires : goal.index_mut-requires
index_mut-requires c =
    let lt : c.loop-class.class-index < length c.order-order.result.now = omega arith in
    let inside : get_or c.order-order.result.now c.loop-class.class-index 0 < length c.loop-class.rows.items = ordered_inside c.args.table.now _ _ _ c.loop-class.class-index _ c.in_ok-sorting.ensures c.order-order.ensures lt c.loop-class.invariant.rows_length in
    omega (arith, c.loop-class.rows.ok.0, inside)

pub loop-class-preserved : goal.loop-class-preserved
loop-class-preserved c =
    let lt : c.loop-class.class-index < length c.order-order.result.now = omega arith in
    ordered_turn c.args.table.now _ _ _ _ _ c.loop-class.class-index _ _ c.requires.within c.in_ok-sorting.ensures c.order-order.ensures lt c.loop-class.invariant c.as_slice.ensures.value c.index-table-class.is c.in_ok-row.ensures

pub returns-clause-rows : goal.returns-clause-rows
returns-clause-rows c = ordered_end c.args.table.now _ _ _ _ c.loop-class.class-index c.requires.within c.in_ok-sorting.ensures c.order-order.ensures c.requires.acyclic (omega arith) c.loop-class.invariant

pub returns-clause-below : goal.returns-clause-below
returns-clause-below c = ordered_below c.args.table.now _ _ _ _ c.loop-class.class-index c.requires.within c.in_ok-sorting.ensures c.order-order.ensures c.requires.acyclic (omega arith) c.loop-class.invariant

pub row_of-requires-clause-new : goal.row_of-requires-clause-new
row_of-requires-clause-new c =
    let lt : c.loop-class.class-index < length c.order-order.result.now = omega arith in
    ordered_new c.args.table.now _ _ _ _ _ c.loop-class.class-index _ _ _ _ c.in_ok-sorting.ensures c.order-order.ensures lt c.loop-class.invariant c.as_slice.ensures.value c.index-table-class.is
    c.in_ok-lists.ensures.length c.in_ok-lists.ensures.upward c.index.ensures c.in_ok-upward.ensures c.requires.acyclic

pub row_of-requires-clause-first : goal.row_of-requires-clause-first
row_of-requires-clause-first c =
    let lt : c.loop-class.class-index < length c.order-order.result.now = omega arith in
    ordered_first c.args.table.now _ _ _ _ _ c.loop-class.class-index _ c.in_ok-sorting.ensures c.order-order.ensures lt c.loop-class.invariant c.as_slice.ensures.value c.index-table-class.is
