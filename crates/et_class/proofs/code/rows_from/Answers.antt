use Rattle.std.proofs.lemmas.Result.{err_from_is_err_and}
use Rattle.et_class.specs.Codes.{exception_row_at}
use Rattle.et_class.specs.Reading.{many_at}
use Rattle.et_class.proofs.Counted.{goes_on, ends, is_done}
use Rattle.et_class.proofs.code.rows_from.Goals as goal

pub returns-in_err-row : goal.returns-in_err-row
returns-in_err-row c =
    let p = err_from_is_err_and c.from_residual.result c.from_residual.ensures.1 in
    rw (p.1, p.2) (ends (exception_row_at c.args.bytes.now) c.in_err-row.field-0.0 c.loop.rows.items c.args.count c.loop.counter c.loop.at (many_at (exception_row_at c.args.bytes.now) c.args.count c.args.start) c.loop-test.true c.in_err-row.ensures c.loop.invariant)

pub loop-preserved : goal.loop-preserved
loop-preserved c =
    rw c.in_ok-push.ensures.items (goes_on (exception_row_at c.args.bytes.now) c.loop.rows.items c.args.count c.loop.counter c.loop.at c.in_ok-row.row c.in_ok-row.after (many_at (exception_row_at c.args.bytes.now) c.args.count c.args.start) c.loop-test.true c.in_ok-row.ensures c.loop.invariant)

pub returns : goal.returns
returns c = is_done (exception_row_at c.args.bytes.now) c.loop.rows.items c.args.count c.loop.counter c.loop.at (many_at (exception_row_at c.args.bytes.now) c.args.count c.args.start) c.loop-test.false c.loop.invariant
