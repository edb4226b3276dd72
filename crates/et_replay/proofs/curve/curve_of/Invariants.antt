use Rattle.std.proofs.Common.{reverse, take}
use Rattle.et_replay.specs.Kept.{IsCurveOf}
use Rattle.et_replay.proofs.curve.curve_of.Given as goal

abbrev pub invariant-loop-line : goal.invariant-loop-line
invariant-loop-line l = IsCurveOf l.curve (reverse (take l.line-index l.lines))
