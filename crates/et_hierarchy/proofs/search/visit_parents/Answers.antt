use Rattle.std.specs.Option.{option_to_list}
use Rattle.et_hierarchy.proofs.Marks.{within_right, visits_parents}
use Rattle.et_hierarchy.proofs.search.visit_parents.Goals as goal

pub visit_all-requires : goal.visit_all-requires
visit_all-requires c = within_right (option_to_list c.args.links.now.above) c.args.links.now.interfaces _ _ _ c.requires c.interfaces.ensures c.in_ok-visit_above.ensures.same_length

pub returns : goal.returns
returns c = visits_parents c.args.links.now _ _ _ _ _ _ _ _ c.above.ensures c.interfaces.ensures c.in_ok-visit_above.ensures c.in_ok-visit_all.ensures
