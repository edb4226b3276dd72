use Rattle.std.proofs.Common.{arith}
use Rattle.std.proofs.lemmas.Grind.{common_steps}
use Rattle.et_hierarchy.proofs.ListLemmas.{behind_is}
use Rattle.et_hierarchy.proofs.lists.ClassList.behind.Goals as goal

pub returns : goal.returns
returns c = grind (arith, common_steps, behind_is)
