use Rattle.std.proofs.Common.{take, reverse}
use Rattle.et_replay.specs.declared.item.Item.TheVariants.{Alloc}
use Rattle.et_replay.proofs.Comes.{comes, reverse_more, reverse_all}
use Rattle.et_replay.proofs.replaying.feed_items.Goals as goal

pub feed_all-requires : goal.feed_all-requires
feed_all-requires g c =
    let s = c.requires.sit in
    let items = c.args.items.now in
    let i = c.loop-item.item-index in
    (s.0, reverse (take i items), c.loop-item.invariant s.0 s.1, λ k d lt. comes items i (Alloc 0 0 0) _ c.loop-item-test.true c.requires.made (s.2 k d lt))

pub loop-item-preserved : goal.loop-item-preserved
loop-item-preserved g c = λ told z.
    (let items = c.args.items.now in
    let i = c.loop-item.item-index in
    rw (reverse_more items i (Alloc 0 0 0) c.loop-item-test.true) (c.in_ok-feed_all.ensures told (reverse (take i items)) (c.loop-item.invariant told z)))

pub returns : goal.returns
returns g c = λ told z. rw (reverse_all c.args.items.now c.loop-item.item-index c.loop-item-test.false) at (c.loop-item.invariant told z)
