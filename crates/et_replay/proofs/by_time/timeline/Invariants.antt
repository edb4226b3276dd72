use Rattle.std.proofs.Common.{reverse, take}
use Rattle.et_replay.specs.Kept.{AreHappenings}
use Rattle.et_replay.proofs.by_time.timeline.Given as goal

abbrev pub invariant-loop-line : goal.invariant-loop-line
invariant-loop-line l = AreHappenings l.happenings (reverse (take l.line-index l.line-items))
