use Rattle.et_hierarchy.proofs.Unique.{same_ancestries}
use Rattle.et_hierarchy.proofs.laws.ancestries_are_one.Goals as goal

pub returns : goal.returns
returns c = same_ancestries
