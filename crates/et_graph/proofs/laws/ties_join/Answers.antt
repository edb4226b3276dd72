use Rattle.et_graph.proofs.Ties.{tie_then as proof}
use Rattle.et_graph.proofs.laws.ties_join.Goals as goal

pub returns : goal.returns
returns c = proof
