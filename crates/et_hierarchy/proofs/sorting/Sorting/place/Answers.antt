use Rattle.std.proofs.Common.{◌<◌, ap, length, ◌∙◌, arith}
use Rattle.et_hierarchy.proofs.Rounds.{links_at}
use Rattle.et_hierarchy.proofs.Sortings.{parent_within, place_waits, place_done, count_wait, count_done}
use Rattle.et_hierarchy.proofs.sorting.Sorting.place.Goals as goal

pub count_passed-passed-requires : goal.count_passed-passed-requires
count_passed-passed-requires c = links_at c.args.table.now c.args.class _ _ c.requires.within c.requires.class c.index-table-class.is (ap length c.as_slice.ensures.value ∙ c.requires.done)

pub index_mut-list-requires : goal.index_mut-list-requires
index_mut-list-requires c =
    let h : c.parent-parent.result < length c.args.self.now.waiting.items = parent_within c.args.table.now c.args.class _ _ _ _ _ c.requires.within c.requires.class c.index-table-class.is c.requires.waiting c.parent_count-count.ensures c.if-passed-count.true c.parent-parent.ensures in
    omega (arith, c.args.self.now.waiting.ok.0, h)

pub returns-then-passed-count-clause-grows : goal.returns-then-passed-count-clause-grows
returns-then-passed-count-clause-grows c = λ rest g.
    place_waits c.args.table.now rest _ _ _ _ _ _ c.args.class _ _ _ _ _ _ _ c.requires.within c.requires.class c.index-table-class.is c.as_slice.ensures.value c.index-from.ensures c.count_passed-passed.ensures.passed c.count_passed-passed.ensures.open c.parent_count-count.ensures c.if-passed-count.true
    c.parent-parent.ensures c.index_mut-list.ensures.value c.in_ok-push.ensures g

pub returns-then-passed-count-clause-count : goal.returns-then-passed-count-clause-count
returns-then-passed-count-clause-count c =
    count_wait _ _ c.args.class _ _ _ (parent_within c.args.table.now c.args.class _ _ _ _ _ c.requires.within c.requires.class c.index-table-class.is c.requires.waiting c.parent_count-count.ensures c.if-passed-count.true c.parent-parent.ensures) c.index_mut-list.ensures.value c.in_ok-push.ensures

pub returns-clause-grows : goal.returns-clause-grows
returns-clause-grows c = λ rest g.
    place_done c.args.table.now rest _ _ _ _ _ _ _ c.args.class _ _ _ _ c.requires.class c.index-table-class.is c.as_slice.ensures.value c.index-from.ensures c.count_passed-passed.ensures.passed c.parent_count-count.ensures c.if-passed-count.false c.in_ok-push-2.ensures.items g

pub returns-clause-count : goal.returns-clause-count
returns-clause-count c = count_done _ c.args.class _ _ c.in_ok-push-2.ensures.items
