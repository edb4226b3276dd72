use Rattle.std.proofs.Common.{◌<◌, length, arith}
use Rattle.std.proofs.lemmas.Bool.Decides.{nat_tests}
use Rattle.std.proofs.lemmas.Result.{err_from_is_err_and}
use Rattle.et_base.proofs.Lists.{none_long}
use Rattle.et_text.proofs.FollowedLines.{lacks_end, ends_late, text_followed}
use Rattle.et_text.proofs.whole.end_text.Goals as goal

pub returns-in_err-follower-clause-err : goal.returns-in_err-follower-clause-err
returns-in_err-follower-clause-err g c = λ bytes h.
    let p = err_from_is_err_and c.from_residual.result c.from_residual.ensures.1 in
    rw (p.1, p.2) (lacks_end h.past c.args.rest.now bytes c.in_err-follower.field-0.0 h.read c.requires.one_line (c.in_err-follower.ensures.err 1 h.past h.followed))

pub returns-then-not-is_empty-clause-err : goal.returns-then-not-is_empty-clause-err
returns-then-not-is_empty-clause-err g c = λ bytes h.
    let some : 0 < length c.args.rest.now = grind (arith, nat_tests, c.if-not-is_empty.ensures) in
    ends_late h.past c.args.rest.now bytes c.next_number-number.result h.read c.requires.one_line (c.in_ok-follower.ensures.ok 1 h.past h.followed).1 some (c.next_number-number.ensures 1 h.past h.followed)

pub returns-clause-ok : goal.returns-clause-ok
returns-clause-ok g c = λ bytes h.
    let end = c.in_ok-follower.ensures.ok 1 h.past h.followed in
    text_followed g.F.Follower.follows c.in_ok-follower.follower h.past c.args.rest.now bytes h.read (none_long c.args.rest.now (grind (arith, nat_tests, c.if-not-is_empty.ensures))) end.1 end.0
