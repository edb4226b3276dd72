use Rattle.std.proofs.Common.{◌++◌, ◌∷◌, [], length, ◌∙◌, ap}
use Rattle.std.specs.List.{flat_map}
use Rattle.et_hierarchy.specs.Ancestry.{added_all, ancestry_at}
use Rattle.et_hierarchy.proofs.AddLemmas.{superinterfaces_are}
use Rattle.et_hierarchy.proofs.Repeats.{once_leads, once_within}
use Rattle.et_hierarchy.proofs.tables.superinterfaces.Goals as goal

pub add_interfaces-requires : goal.add_interfaces-requires
add_interfaces-requires c = once_within (length c.args.rows.now) c.args.links.now.interfaces _ _ c.requires.interfaces c.interfaces.ensures (c.as_slice.ensures.value ∙ c.in_ok-interfaces.ensures)

pub returns : goal.returns
returns c =
    superinterfaces_are c.args.links.now c.args.rows.now c.args.class _ c.interfaces.result.now _ _ _ c.above-above.ensures c.interfaces.ensures
    c.clear.ensures c.in_ok-add_superinterfaces_over.ensures
    (c.in_ok-found.ensures
    ∙ (c.as_slice-2.ensures
    ∙ (c.in_ok-add_interfaces.ensures
    ∙ (ap (λ is. added_all c.add_superinterfaces_over.new.list (flat_map (λ i. (ancestry_at c.args.rows.now i).superinterfaces ++ i ∷ []) is)) (c.as_slice.ensures.value ∙ c.in_ok-interfaces.ensures) ∙ once_leads (λ i. (ancestry_at c.args.rows.now i).superinterfaces ++ i ∷ []) c.add_superinterfaces_over.new.list c.interfaces.result.now))))
