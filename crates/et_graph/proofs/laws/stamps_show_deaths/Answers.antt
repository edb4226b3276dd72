use Rattle.et_graph.proofs.Deaths.{stamped_deaths}
use Rattle.et_graph.proofs.laws.stamps_show_deaths.Goals as goal

pub returns : goal.returns
returns c = stamped_deaths
