use Rattle.std.proofs.Common.{◌∙◌, sym}
use Rattle.std.proofs.lemmas.Result.{err_from_is_err_and}
use Rattle.et_text.specs.Text.BreaksText.{BreaksForm, BreaksAfter}
use Rattle.et_text.proofs.Pieces.{refused_by}
use Rattle.et_text.proofs.Versions.{not_two}
use Rattle.et_text.proofs.lines.take_bytes.Goals as goal

pub returns-then-ended-clause-err : goal.returns-then-ended-clause-err
returns-then-ended-clause-err c = record { breaks = BreaksAfter (sym c.requires.ended ∙ c.if-ended.true); at = c.next_number.ensures }

pub returns-in_err-take-in-Ok-clause-err : goal.returns-in_err-take-in-Ok-clause-err
returns-in_err-take-in-Ok-clause-err c =
    let p = err_from_is_err_and c.from_residual.result c.from_residual.ensures.1 in
    rw (p.1, p.2) (refused_by c.args.rules.now c.take.new.self c.in-Ok.line c.args.bytes.now c.in_err-take-in-Ok.field-0.0 c.in-Ok.ensures.found (c.in_err-take-in-Ok.ensures.err c.requires.unharmed))

pub returns-in-Err-Form-clause-err : goal.returns-in-Err-Form-clause-err
returns-in-Err-Form-clause-err c = record { breaks = BreaksForm (sym c.requires.ended ∙ c.if-ended.false) (let e = c.in-Err-Form.field-0-is in c.in-Err-Form.ensures.form (cc)); at = c.next_number-in-Err-Form.ensures }

pub take-requires-clause-short : goal.take-requires-clause-short
take-requires-clause-short c = λ two. absurd (not_two _ c.requires.fine two)
