use Rattle.std.proofs.lemmas.Result.{err_from_is_err_and}
use Rattle.et_text.specs.Spelling.{line_body}
use Rattle.et_text.proofs.FollowedLines.{bytes_refused, first_refused, spelled_front}
use Rattle.et_text.proofs.whole.take_first.Goals as goal

pub returns-in_err-take-in-Ok-clause-err : goal.returns-in_err-take-in-Ok-clause-err
returns-in_err-take-in-Ok-clause-err g c = λ past h.
    let p = err_from_is_err_and c.from_residual.result c.from_residual.ensures.1 in
    let r = c.in-Ok.ensures.range in
    let line = c.in-Ok.line in
    rw (p.1, p.2) (first_refused past (line_body line) c.in-Ok.behind.now c.args.bytes.now c.in_err-take-in-Ok.field-0.0 c.in-Ok.ensures.first (bytes_refused past line (line_body line) c.in_err-take-in-Ok.field-0.0 (spelled_front line r) (c.in_err-take-in-Ok.ensures.err 1 past h r)))
