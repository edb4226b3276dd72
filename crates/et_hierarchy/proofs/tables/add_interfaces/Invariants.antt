use Rattle.std.proofs.Common.{◌≡◌, drop, ◌++◌, ◌∷◌, []}
use Rattle.std.specs.List.{flat_map}
use Rattle.et_hierarchy.specs.Ancestry.{added_all, ancestry_at}
use Rattle.et_hierarchy.proofs.tables.add_interfaces.Given as goal

abbrev pub invariant-loop-interface : goal.invariant-loop-interface
invariant-loop-interface l = added_all l.list (flat_map (λ i. (ancestry_at l.rows i).superinterfaces ++ i ∷ []) (drop l.interface-index l.interfaces)) ≡ added_all l.fn.list (flat_map (λ i. (ancestry_at l.rows i).superinterfaces ++ i ∷ []) l.interfaces)
