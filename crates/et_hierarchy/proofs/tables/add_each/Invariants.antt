use Rattle.std.proofs.Common.{◌≡◌, drop}
use Rattle.et_hierarchy.specs.Ancestry.{added_all}
use Rattle.et_hierarchy.proofs.tables.add_each.Given as goal

abbrev pub invariant-loop-class : goal.invariant-loop-class
invariant-loop-class l = added_all l.list (drop l.class-index l.classes) ≡ added_all l.fn.list l.classes
