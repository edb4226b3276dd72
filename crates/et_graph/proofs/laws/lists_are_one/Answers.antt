use Rattle.et_graph.proofs.ListedOnce.{list_one as proof}
use Rattle.et_graph.proofs.laws.lists_are_one.Goals as goal

pub returns : goal.returns
returns c = proof
