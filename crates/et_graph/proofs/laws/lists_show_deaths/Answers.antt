use Rattle.et_graph.proofs.ListedOnce.{list_stamped as proof}
use Rattle.et_graph.proofs.laws.lists_show_deaths.Goals as goal

pub returns : goal.returns
returns c = proof
