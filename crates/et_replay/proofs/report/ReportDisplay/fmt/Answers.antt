use Rattle.std.proofs.Common.{rules, append_assoc}
use Rattle.et_replay.proofs.report.ReportDisplay.fmt.Goals as goal

pub returns-in-MarkSweep-clause-writes : goal.returns-in-MarkSweep-clause-writes
returns-in-MarkSweep-clause-writes g c = rw c.in-MarkSweep.is (simp append_assoc (search rules))

pub returns-in-SemiSpace-clause-writes : goal.returns-in-SemiSpace-clause-writes
returns-in-SemiSpace-clause-writes g c = rw c.in-SemiSpace.is (simp append_assoc (search rules))

pub returns-in-RefCount-clause-writes : goal.returns-in-RefCount-clause-writes
returns-in-RefCount-clause-writes g c = rw c.in-RefCount.is (simp append_assoc (search rules))
