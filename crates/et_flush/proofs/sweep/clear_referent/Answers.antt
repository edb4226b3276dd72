use Rattle.et_heap.specs.Objects.{object_at}
use Rattle.et_flush.specs.Ranks.{time_of}
use Rattle.et_flush.specs.Sweeps.{is_now}
use Rattle.et_flush.proofs.Sweeping.{referent_kept, kept_same, now_is, referent_is}
use Rattle.et_flush.proofs.sweep.clear_referent.Goals as goal

pub time_at-requires : goal.time_at-requires
time_at-requires g c = c.requires.within c.in-Ref.referent (referent_is (object_at c.args.heap.now c.args.object).referent c.in-Ref.referent c.in-Ref.ensures.value)

pub returns-else-time_at-lt-NOW-clause-heap : goal.returns-else-time_at-lt-NOW-clause-heap
returns-else-time_at-lt-NOW-clause-heap g c =
    referent_kept (is_now (time_of c.args.ranks.now c.args.times.now)) c.args.heap.now c.args.object c.requires.held
    (kept_same (is_now (time_of c.args.ranks.now c.args.times.now)) (object_at c.args.heap.now c.args.object).referent c.in-Ref.referent
    (referent_is (object_at c.args.heap.now c.args.object).referent c.in-Ref.referent c.in-Ref.ensures.value) (now_is (time_of c.args.ranks.now c.args.times.now) c.in-Ref.referent c.time_at.result c.time_at.ensures c.if-time_at-lt-NOW.false))
