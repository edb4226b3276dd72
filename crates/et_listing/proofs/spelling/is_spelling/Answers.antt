use Rattle.std.proofs.Common.{arith}
use Rattle.et_listing.proofs.Spelled.{spelled_none, spelled_step, spelled_end}
use Rattle.et_listing.proofs.spelling.is_spelling.Goals as goal

pub returns-then-size-eq0 : goal.returns-then-size-eq0
returns-then-size-eq0 c = spelled_none c.args.word.now c.loop-i.i c.spelled_at-size.result _ (omega arith) c.spelled_at-size.ensures c.if-size-eq0.true c.loop-i.invariant.left

pub loop-i-preserved : goal.loop-i-preserved
loop-i-preserved c =
    let step = spelled_step c.args.word.now c.loop-i.i c.spelled_at-size.result _ (omega arith) c.spelled_at-size.ensures c.if-size-eq0.false c.loop-i.invariant.left in
    record { within = step.0; left = step.2 }

pub loop-i-smaller : goal.loop-i-smaller
loop-i-smaller c =
    let step = spelled_step c.args.word.now c.loop-i.i c.spelled_at-size.result _ (omega arith) c.spelled_at-size.ensures c.if-size-eq0.false c.loop-i.invariant.left in
    omega (arith, step.0, step.1)

pub returns : goal.returns
returns c = spelled_end c.args.word.now c.loop-i.i _ (omega arith) c.loop-i.invariant.left
