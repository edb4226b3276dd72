use Rattle.std.proofs.lemmas.Result.{err_from_is_err_and}
use Rattle.et_binary.proofs.FollowedRecords.{front_refused}
use Rattle.et_binary.proofs.whole.take_front.Goals as goal

pub returns-in_err-line-clause-err : goal.returns-in_err-line-clause-err
returns-in_err-line-clause-err g c = λ past h.
    let p = err_from_is_err_and c.from_residual.result c.from_residual.ensures.1 in
    rw (p.1, p.2) (c.in_err-line.ensures.err past (c.has_ended.ensures 2 past h) (c.next_number.ensures 2 past h))

pub returns-in_err-take-in-Some-clause-err : goal.returns-in_err-take-in-Some-clause-err
returns-in_err-take-in-Some-clause-err g c = λ past h.
    let p = err_from_is_err_and c.from_residual-in_err-take-in-Some.result c.from_residual-in_err-take-in-Some.ensures.1 in
    let w = rw c.in-Some.is at c.in_ok-line.ensures.some in
    rw (p.1, p.2) (front_refused past c.in-Some.line c.in-Some.behind.now c.args.bytes.now c.in_err-take-in-Some.field-0.0 w (c.in_err-take-in-Some.ensures.err 2 past h w.range))
