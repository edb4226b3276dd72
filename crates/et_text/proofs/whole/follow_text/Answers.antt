use Rattle.std.proofs.Common.{[], refl}
use Rattle.et_text.proofs.FollowedLines.{followed_on}
use Rattle.et_text.proofs.whole.follow_text.Goals as goal

pub lines-init : goal.lines-init
lines-init g c = record { past = []; followed = c.begin-lines.ensures 1 c.requires.new; read = record { fine = tt; parts = refl } }

pub lines-preserved : goal.lines-preserved
lines-preserved g c =
    let h = c.lines.invariant in
    followed_on g.F.Follower.follows c.lines.lines c.take_first.new.lines c.in-Some.behind.now c.lines.rest.now c.args.bytes.now h (rw c.in-Some.is at (c.in_ok-behind.ensures.some h.past h.followed))
