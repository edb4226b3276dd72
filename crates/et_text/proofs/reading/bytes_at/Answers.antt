use Rattle.std.proofs.Common.{sym, length}
use Rattle.std.proofs.lemmas.Result.{err_from_is_err_and}
use Rattle.et_text.proofs.Loop.{goes_on, ends, stops, is_done}
use Rattle.et_text.proofs.reading.bytes_at.Goals as goal

pub returns-then-is_break : goal.returns-then-is_break
returns-then-is_break c = stops c.bytes.name (length c.args.bytes.now) c.bytes.counter c.bytes.rest.now _ c.bytes-test.true (sym c.if-is_break.ensures) c.bytes.invariant

pub returns-in_err-byte : goal.returns-in_err-byte
returns-in_err-byte c =
    let p = err_from_is_err_and c.from_residual.result c.from_residual.ensures.1 in
    rw (p.1, p.2) (ends c.in_err-byte.field-0.0 c.bytes.name (length c.args.bytes.now) c.bytes.counter c.bytes.rest.now _ c.bytes-test.true (sym c.if-is_break.ensures) c.in_err-byte.ensures c.bytes.invariant)

pub bytes-preserved : goal.bytes-preserved
bytes-preserved c =
    rw c.in_ok-push.ensures.ok (goes_on c.bytes.name (length c.args.bytes.now) c.bytes.counter c.bytes.rest.now c.in_ok-byte.byte c.in_ok-byte.after.now _ c.bytes-test.true (sym c.if-is_break.ensures) c.in_ok-byte.ensures c.bytes.invariant)

pub returns : goal.returns
returns c = is_done c.bytes.name (length c.args.bytes.now) c.bytes.counter c.bytes.rest.now _ c.bytes-test.false c.bytes.invariant
