use Rattle.std.proofs.Common.{length}
use Rattle.et_binary.proofs.FollowedRecords.{AreFollowedTo}
use Rattle.et_binary.proofs.whole.follow_pack.Given as goal

abbrev pub invariant-records : goal.invariant-records
invariant-records g l = AreFollowedTo g.F.Follower.follows l.lines l.rest l.bytes

abbrev pub decreases-records : goal.decreases-records
decreases-records g l = length l.rest
