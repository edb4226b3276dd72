use Rattle.std.proofs.Common.{ℕ, ◌+◌, sym, ap, ◌∙◌}
use Rattle.std.specs.Prelude.{reverse}
use Rattle.std.proofs.lemmas.List.{length-reverse}
use Rattle.std.proofs.lemmas.Result.{err_from_is_err_and}
use Rattle.et_binary.proofs.Portions.{refused_as, refused_by}
use Rattle.et_binary.proofs.records.take_record.Goals as goal

pub returns-in_err-line-clause-err : goal.returns-in_err-line-clause-err
returns-in_err-line-clause-err c =
    let p = err_from_is_err_and c.from_residual.result c.from_residual.ensures.1 in
    let rules = c.args.rules.now in
    rw (p.1, p.2) (refused_as rules c.args.bytes.now c.in_err-line.field-0.0
    (c.in_err-line.ensures.err (reverse rules.lines) (c.has_ended.ensures c.requires.unharmed) (c.next_number.ensures ∙ ap (λ (n : ℕ). n + 1) (sym (length-reverse rules.lines)))))

pub returns-in_err-take-in-Some-clause-err : goal.returns-in_err-take-in-Some-clause-err
returns-in_err-take-in-Some-clause-err c =
    let p = err_from_is_err_and c.from_residual-in_err-take-in-Some.result c.from_residual-in_err-take-in-Some.ensures.1 in
    rw (p.1, p.2) (refused_by c.args.rules.now c.take.new.self c.in-Some.line c.in-Some.behind.now c.args.bytes.now c.in_err-take-in-Some.field-0.0 (rw c.in-Some.is at c.in_ok-line.ensures.some) (c.in_err-take-in-Some.ensures.err c.requires.unharmed))
