use Rattle.std.proofs.Common.{arith}
use Rattle.et_replay.specs.declared.item.Item.TheVariants.{Alloc}
use Rattle.et_replay.proofs.Comes.{made_left, made_end}
use Rattle.et_replay.proofs.item.count_objects.Goals as goal

pub overflow_add-objects : goal.overflow_add-objects
overflow_add-objects c =
    let left = made_left c.args.items.now c.loop-item.item-index (Alloc 0 0 0) c.loop-item-test.true in
    let so_far = c.loop-item.invariant in
    let one = c.makes-objects.ensures in
    let few = c.requires in
    omega (arith, left, so_far, one, few)

pub loop-item-preserved : goal.loop-item-preserved
loop-item-preserved c =
    let left = made_left c.args.items.now c.loop-item.item-index (Alloc 0 0 0) c.loop-item-test.true in
    let so_far = c.loop-item.invariant in
    let one = c.makes-objects.ensures in
    omega (arith, left, so_far, one)

pub returns : goal.returns
returns c =
    let end = made_end c.args.items.now c.loop-item.item-index c.loop-item-test.false in
    let so_far = c.loop-item.invariant in
    omega (arith, end, so_far)
