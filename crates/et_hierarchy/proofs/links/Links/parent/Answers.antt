use Rattle.et_hierarchy.proofs.Sortings.{first_parent, later_parent, later_inside, same_parent, same_inside}
use Rattle.et_hierarchy.proofs.links.Links.parent.Goals as goal

pub bounds-interfaces-i : goal.bounds-interfaces-i
bounds-interfaces-i c = later_inside c.args.self.now _ _ c.args.i _ c.above.ensures c.interfaces-interfaces.ensures c.in-Some.is c.if-i-eq0.false c.requires

pub bounds-interfaces-i-in-None : goal.bounds-interfaces-i-in-None
bounds-interfaces-i-in-None c = same_inside c.args.self.now _ c.args.i _ c.above.ensures c.interfaces-interfaces.ensures c.in-None.is c.requires

pub returns-then-i-eq0 : goal.returns-then-i-eq0
returns-then-i-eq0 c = first_parent c.args.self.now _ _ c.args.i _ c.above.ensures c.interfaces-interfaces.ensures c.in-Some.is c.if-i-eq0.true

pub returns-else-i-eq0 : goal.returns-else-i-eq0
returns-else-i-eq0 c = later_parent c.args.self.now _ _ c.args.i _ c.above.ensures c.interfaces-interfaces.ensures c.in-Some.is c.if-i-eq0.false

pub returns-in-None : goal.returns-in-None
returns-in-None c = same_parent c.args.self.now _ c.args.i _ c.above.ensures c.interfaces-interfaces.ensures c.in-None.is
