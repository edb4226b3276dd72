use Rattle.et_graph.proofs.Walks.{is_reached, is_reached_decides}
use Rattle.et_graph.proofs.laws.reaching_is_decided.Goals as goal

pub returns : goal.returns
returns c = (is_reached, is_reached_decides)
