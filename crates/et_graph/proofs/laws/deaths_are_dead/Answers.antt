use Rattle.et_graph.proofs.Deaths.{deaths_dead}
use Rattle.et_graph.proofs.laws.deaths_are_dead.Goals as goal

pub returns : goal.returns
returns c = deaths_dead
