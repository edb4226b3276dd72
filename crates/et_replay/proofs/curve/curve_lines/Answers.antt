use Rattle.std.proofs.Common.{List, subst}
use Rattle.std.specs.Prelude.{reverse}
use Rattle.et_base.specs.declared.line.TraceLine.{TraceLine}
use Rattle.et_io.proofs.Taking.{none_put}
use Rattle.et_replay.specs.Curve.{curve_text}
use Rattle.et_replay.specs.Kept.{IsCurveOf}
use Rattle.et_replay.proofs.curve.curve_lines.Goals as goal

pub returns-in-Ok-clause-ok : goal.returns-in-Ok-clause-ok
returns-in-Ok-clause-ok g c = c.put.ensures.ok c.args.trace.now c.lines.ensures.good (subst (λ (t : List TraceLine). IsCurveOf c.in-Ok.curve (reverse t)) c.lines.ensures.value c.in-Ok.ensures)

pub returns-in-Ok-clause-err : goal.returns-in-Ok-clause-err
returns-in-Ok-clause-err g c = c.put.ensures.err c.args.trace.now c.lines.ensures.good (subst (λ (t : List TraceLine). IsCurveOf c.in-Ok.curve (reverse t)) c.lines.ensures.value c.in-Ok.ensures)

pub returns-in-Err-clause-err : goal.returns-in-Err-clause-err
returns-in-Err-clause-err g c = none_put (g.O.Sink.taken c.args.sink.now) (curve_text c.args.trace.now)
