use Rattle.std.proofs.Common.{◌≡◌, drop}
use Rattle.std.specs.List.{list_all}
use Rattle.et_hierarchy.specs.Faults.{is_interface_named}
use Rattle.et_hierarchy.proofs.links.has_supers.Given as goal

abbrev pub invariant-loop-name : goal.invariant-loop-name
invariant-loop-name l = list_all (is_interface_named l.set) (drop l.name-index l.name-items) ≡ list_all (is_interface_named l.set) l.name-items
