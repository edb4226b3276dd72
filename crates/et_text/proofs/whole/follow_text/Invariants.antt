use Rattle.std.proofs.Common.{length}
use Rattle.et_text.specs.Followed.{IsFollowedTo}
use Rattle.et_text.proofs.whole.follow_text.Given as goal

abbrev pub invariant-lines : goal.invariant-lines
invariant-lines g l = IsFollowedTo g.F.Follower.follows l.lines l.rest l.bytes

abbrev pub decreases-lines : goal.decreases-lines
decreases-lines g l = length l.rest
