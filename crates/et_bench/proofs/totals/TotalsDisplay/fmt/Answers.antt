use Rattle.std.proofs.Common.{rules, append_assoc}
use Rattle.et_bench.proofs.totals.TotalsDisplay.fmt.Goals as goal

pub returns-clause-writes : goal.returns-clause-writes
returns-clause-writes g c = simp append_assoc (search rules)
