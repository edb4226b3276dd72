use Rattle.std.proofs.Common.{List, subst}
use Rattle.std.specs.Prelude.{reverse}
use Rattle.std.proofs.lemmas.List.{take_all}
use Rattle.et_base.specs.declared.line.TraceLine.{TraceLine}
use Rattle.et_replay.specs.Kept.{IsCurveOf}
use Rattle.et_replay.proofs.curve.curve_of.Goals as goal

pub returns : goal.returns
returns c = subst (λ (t : List TraceLine). IsCurveOf c.loop-line.curve (reverse t)) (take_all c.loop-line.line-index c.args.lines.now c.loop-line-test.false) c.loop-line.invariant
