use Rattle.std.proofs.Common.{◌∙◌, sym}
use Rattle.std.proofs.lemmas.Result.{IfErr-weaker}
use Rattle.et_text.specs.Followed.{RefusesNext, RefusesBytesNext}
use Rattle.et_text.specs.Text.BreaksText.{BreaksForm, BreaksAfter}
use Rattle.et_text.proofs.FollowedLines.{bytes_followed, bytes_refused}
use Rattle.et_text.proofs.whole.take_bytes.Goals as goal

pub returns-then-has_ended-clause-err : goal.returns-then-has_ended-clause-err
returns-then-has_ended-clause-err g c = λ past h. record {
  breaks = BreaksAfter (sym (c.has_ended.ensures 1 past h) ∙ c.if-has_ended.true);
  at = c.next_number.ensures 1 past h;
}

pub returns-in-Ok-clause-ok : goal.returns-in-Ok-clause-ok
returns-in-Ok-clause-ok g c = λ past h.
    let s = c.in-Ok.ensures.found in
    bytes_followed g.F.Follower.follows c.take.result c.take.new.self past c.in-Ok.line c.args.bytes.now s (c.take.ensures.ok 1 past h s.range)

pub returns-in-Ok-clause-err : goal.returns-in-Ok-clause-err
returns-in-Ok-clause-err g c = λ past h.
    let s = c.in-Ok.ensures.found in
    IfErr-weaker c.take.result (RefusesNext past c.in-Ok.line) (RefusesBytesNext past c.args.bytes.now) (λ fault. bytes_refused past c.in-Ok.line c.args.bytes.now fault s) (c.take.ensures.err 1 past h s.range)

pub returns-in-Err-Form-clause-err : goal.returns-in-Err-Form-clause-err
returns-in-Err-Form-clause-err g c = λ past h. record {
  breaks = BreaksForm (sym (c.has_ended.ensures 1 past h) ∙ c.if-has_ended.false) (let e = c.in-Err-Form.field-0-is in c.in-Err-Form.ensures.form (cc));
  at = c.next_number-in-Err-Form.ensures 1 past h;
}
