use Rattle.std.proofs.lemmas.Result.{err_from_is_err_and}
use Rattle.std.specs.Int.{w16}
use Rattle.et_class.specs.Reading.{number_read}
use Rattle.et_class.specs.Reading.{many_at}
use Rattle.et_class.proofs.Counted.{goes_on, ends, is_done}
use Rattle.et_class.proofs.header.indices_from.Goals as goal

pub returns-in_err-index : goal.returns-in_err-index
returns-in_err-index c =
    let p = err_from_is_err_and c.from_residual.result c.from_residual.ensures.1 in
    rw (p.1, p.2) (ends (number_read w16 c.args.bytes.now) c.in_err-index.field-0.0 c.loop.indices.items c.args.count c.loop.counter c.loop.at (many_at (number_read w16 c.args.bytes.now) c.args.count c.args.start) c.loop-test.true c.in_err-index.ensures c.loop.invariant)

pub loop-preserved : goal.loop-preserved
loop-preserved c =
    rw c.in_ok-push.ensures.items (goes_on (number_read w16 c.args.bytes.now) c.loop.indices.items c.args.count c.loop.counter c.loop.at c.in_ok-index.index c.in_ok-index.after (many_at (number_read w16 c.args.bytes.now) c.args.count c.args.start) c.loop-test.true c.in_ok-index.ensures c.loop.invariant)

pub returns : goal.returns
returns c = is_done (number_read w16 c.args.bytes.now) c.loop.indices.items c.args.count c.loop.counter c.loop.at (many_at (number_read w16 c.args.bytes.now) c.args.count c.args.start) c.loop-test.false c.loop.invariant
