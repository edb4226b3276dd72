use Rattle.et_replay.proofs.Seating.{half_none, half_more, half_all, next_told}
use Rattle.et_replay.proofs.replaying.feed_all.Goals as goal

pub loop-seat-init : goal.loop-seat-init
loop-seat-init g c = half_none _ _ _

pub feed_seat-requires : goal.feed_seat-requires
feed_seat-requires g c = next_told _ _ _ _ _ c.seat-item.result c.requires.0 c.requires.1 c.loop-seat-test.true c.loop-seat.invariant c.requires.2 c.requires.3

pub loop-seat-preserved : goal.loop-seat-preserved
loop-seat-preserved g c = half_more _ _ _ _ _ c.seat-item.result _ c.loop-seat-test.true (λ p past s. c.in_ok-feed_seat.ensures p.0 p.1 past s) c.loop-seat.invariant

pub returns : goal.returns
returns g c = λ told past z. half_all _ _ _ _ _ c.loop-seat-test.false c.loop-seat.invariant told past z
