use Rattle.std.proofs.Common.{◌<◌, length, ◌∙◌, arith}
use Rattle.et_hierarchy.proofs.Sortings.{turn_inside, growing_turn, count_turn}
use Rattle.et_hierarchy.proofs.sorting.Sorting.turn.Goals as goal

pub index_mut-list-requires : goal.index_mut-list-requires
index_mut-list-requires c =
    let h : c.index-class.result.now < length c.args.self.now.waiting.items = turn_inside c.args.table.now _ _ _ _ c.args.self.now.next _ c.requires.grows c.requires.more c.index-class.ensures in
    omega (arith, c.args.self.now.waiting.ok.0, h)

pub place_all-requires-clause-grows : goal.place_all-requires-clause-grows
place_all-requires-clause-grows c =
    growing_turn c.args.table.now _ _ _ _ c.args.self.now.next _ _ _ _ c.requires.grows c.requires.more c.index-class.ensures c.index_mut-list.ensures.value (c.as_slice.ensures.value ∙ c.take-freed.ensures.taken) c.take-freed.ensures.left

pub returns-clause-count : goal.returns-clause-count
returns-clause-count c =
    count_turn _ _ _ _ _ _ _ (turn_inside c.args.table.now _ _ _ _ c.args.self.now.next _ c.requires.grows c.requires.more c.index-class.ensures) c.index_mut-list.ensures.value (c.as_slice.ensures.value ∙ c.take-freed.ensures.taken) c.take-freed.ensures.left c.in_ok-place_all.ensures.count
