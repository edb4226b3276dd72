use Rattle.std.proofs.Common.{◌≡◌, ◌+◌, arith}
use Rattle.et_text.proofs.FollowedLines.{keeps, line_followed, line_refused}
use Rattle.et_text.proofs.handing.Following.take.Goals as goal

pub line-requires : goal.line-requires
line-requires g c =
    let r = c.requires.range in
    record {
      fine = (r.1, r.2.followed, keeps g.F.Follower.follows r.0 c.args.self.now c.follow.new.s r.1 c.args.line.now c.in_ok-kind.field-0 r.2 r.3 c.in_ok-kind.ensures c.in-None.is);
    }

pub returns-in-Some-2-clause-err : goal.returns-in-Some-2-clause-err
returns-in-Some-2-clause-err g c = λ version past h r.
    line_refused g.F.Follower.follows version c.args.self.now c.follow.new.s past c.args.line.now c.in_ok-kind.field-0 c.in-Some-2.kind h r c.in_ok-kind.ensures c.in-Some-2.is

pub returns-in_ok-line-in-None-clause-ok : goal.returns-in_ok-line-in-None-clause-ok
returns-in_ok-line-in-None-clause-ok g c = λ version past h r.
    let next : c.in-Some.next ≡ c.args.self.now.number + 1 = omega (arith, c.in-Some.ensures) in
    line_followed g.F.Follower.follows version c.args.self.now _ past c.args.line.now c.in_ok-kind.field-0 h r c.in_ok-kind.ensures c.in-None.is next (c.in_ok-line-in-None.ensures past h.followed)
