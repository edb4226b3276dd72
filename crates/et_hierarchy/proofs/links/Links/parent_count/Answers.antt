use Rattle.et_hierarchy.proofs.Sortings.{count_with, count_without}
use Rattle.et_hierarchy.proofs.links.Links.parent_count.Goals as goal

pub returns-in-Some : goal.returns-in-Some
returns-in-Some c = count_with c.args.self.now _ _ _ c.above.ensures c.interfaces-interfaces.ensures c.in-Some.is

pub returns-in-None : goal.returns-in-None
returns-in-None c = count_without c.args.self.now _ _ c.above.ensures c.interfaces-interfaces.ensures c.in-None.is
