use Rattle.std.proofs.Common.{◌≡◌, take, map}
use Rattle.et_hierarchy.specs.Links.{links_of}
use Rattle.et_hierarchy.proofs.links.link_all.Given as goal

abbrev pub invariant-loop-class : goal.invariant-loop-class
invariant-loop-class l = l.table.items ≡ map (links_of l.set) (take l.class-index l.set)
