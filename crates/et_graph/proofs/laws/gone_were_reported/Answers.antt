use Rattle.et_graph.proofs.Deaths.{gone_reported}
use Rattle.et_graph.proofs.laws.gone_were_reported.Goals as goal

pub returns : goal.returns
returns c = gone_reported
