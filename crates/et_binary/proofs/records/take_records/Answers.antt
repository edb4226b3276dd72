use Rattle.std.proofs.lemmas.Result.{err_from_is_err_and}
use Rattle.et_binary.proofs.Portions.{shown_behind}
use Rattle.et_binary.proofs.records.take_records.Goals as goal

pub returns-in_err-behind-clause-err : goal.returns-in_err-behind-clause-err
returns-in_err-behind-clause-err c =
    let p = err_from_is_err_and c.from_residual.result c.from_residual.ensures.1 in
    rw (p.1, p.2) (shown_behind c.in_err-behind.field-0.0 c.args.rules.now c.records.rules c.args.bytes.now c.records.rest.now c.records.invariant.parts c.records.invariant.fine c.in_err-behind.ensures.err)
