use Rattle.std.proofs.Common.{arith}
use Rattle.et_hierarchy.proofs.Sortings.{growing_start, growing_end}
use Rattle.et_hierarchy.proofs.sorting.sort.Goals as goal

pub place_all-requires-clause-grows : goal.place_all-requires-clause-grows
place_all-requires-clause-grows c =
    growing_start c.args.table.now _ _ _ _ _ _ _ c.as_slice.ensures.value c.in_ok-all.ensures.within c.in_ok-all.ensures.all c.in_ok-sorting.ensures.order c.in_ok-sorting.ensures.done c.in_ok-sorting.ensures.passed c.in_ok-sorting.ensures.waiting_length c.in_ok-sorting.ensures.waiting c.in_ok-sorting.ensures.next

pub returns : goal.returns
returns c = growing_end c.args.table.now _ _ _ _ _ c.turns.invariant (omega arith)
