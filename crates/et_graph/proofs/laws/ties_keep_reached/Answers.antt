use Rattle.et_graph.proofs.Ties.{tie_reached, reached_tie}
use Rattle.et_graph.proofs.laws.ties_keep_reached.Goals as goal

pub returns : goal.returns
returns c = λ g h is o. (tie_reached g h is o, reached_tie g h is o)
