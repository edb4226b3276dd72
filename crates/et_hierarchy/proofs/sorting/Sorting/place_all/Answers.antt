use Rattle.std.proofs.Common.{◌<◌, ◌+◌, drop, length, ◌∙◌, arith}
use Rattle.et_hierarchy.proofs.Sortings.{hand_next, hand_inside, hand_over}
use Rattle.et_hierarchy.proofs.sorting.Sorting.place_all.Goals as goal

pub place-requires-clause-class : goal.place-requires-clause-class
place-requires-clause-class c =
    let lt : c.loop-class.class-index < length c.args.classes.now = omega arith in
    hand_inside c.args.table.now c.args.classes.now _ _ _ _ _ c.loop-class.class-index lt c.loop-class.invariant.grows

pub loop-class-preserved : goal.loop-class-preserved
loop-class-preserved c =
    let lt : c.loop-class.class-index < length c.args.classes.now = omega arith in
    record {
      grows = c.in_ok-place.ensures.grows (drop (c.loop-class.class-index + 1) c.args.classes.now) (hand_next c.args.table.now c.args.classes.now _ _ _ _ _ c.loop-class.class-index lt c.loop-class.invariant.grows);
      count = omega (arith, c.in_ok-place.ensures.count);
      next = c.in_ok-place.ensures.next ∙ c.loop-class.invariant.next;
    }

pub returns-clause-grows : goal.returns-clause-grows
returns-clause-grows c = hand_over c.args.table.now c.args.classes.now _ _ _ _ _ c.loop-class.class-index (omega arith) c.loop-class.invariant.grows
