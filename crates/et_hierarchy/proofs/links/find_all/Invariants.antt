use Rattle.std.proofs.Common.{◌≡◌, drop, ◌++◌}
use Rattle.std.specs.List.{filter_map}
use Rattle.et_hierarchy.specs.Outline.{class_place}
use Rattle.et_hierarchy.proofs.links.find_all.Given as goal

abbrev pub invariant-loop-name : goal.invariant-loop-name
invariant-loop-name l = l.found.items ++ filter_map (class_place l.set) (drop l.name-index l.names) ≡ filter_map (class_place l.set) l.names
