use Rattle.std.proofs.Common.{inr}
use Rattle.et_top.proofs.bench.summary_of.Goals as goal

pub returns-in-Ok-clause-ok : goal.returns-in-Ok-clause-ok
returns-in-Ok-clause-ok g c reached decides =
    let is = c.in_ok-back.ensures.ok reached decides in
    (is.0, c.in_ok-back.back.trace, is.1, c.in-Ok.ensures reached decides)

pub returns-clause-err : goal.returns-clause-err
returns-clause-err g c reached decides =
    let is = c.in_ok-back.ensures.ok reached decides in
    inr (is.0, c.in_ok-back.back.end, is.1.run)
