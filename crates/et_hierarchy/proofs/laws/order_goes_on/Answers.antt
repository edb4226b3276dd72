use Rattle.et_hierarchy.proofs.InitLemmas.{goes_on}
use Rattle.et_hierarchy.proofs.laws.order_goes_on.Goals as goal

pub returns : goal.returns
returns c = goes_on
