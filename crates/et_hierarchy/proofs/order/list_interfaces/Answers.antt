use Rattle.std.proofs.Common.{ℕ, List, ◌++◌, ◌∷◌, [], length, ◌∙◌, ap}
use Rattle.std.specs.List.{flat_map}
use Rattle.et_hierarchy.specs.Ancestry.{added_all, ancestry_at}
use Rattle.et_hierarchy.proofs.Repeats.{once_leads, once_within}
use Rattle.et_hierarchy.proofs.order.list_interfaces.Goals as goal

pub add_interfaces-requires : goal.add_interfaces-requires
add_interfaces-requires c = once_within (length c.args.rows.now) c.args.links.now.interfaces _ _ c.requires c.interfaces.ensures (c.as_slice.ensures.value ∙ c.in_ok-interfaces.ensures)

pub returns : goal.returns
returns c =
    let F : ℕ → List ℕ = λ i. (ancestry_at c.args.rows.now i).superinterfaces ++ i ∷ [] in
    c.in_ok-add_interfaces.ensures
    ∙ (ap (λ (s : List ℕ). added_all s (flat_map F c.as_slice.result.now)) c.clear.ensures
    ∙ (ap (λ (is : List ℕ). added_all [] (flat_map F is)) (c.as_slice.ensures.value ∙ c.in_ok-interfaces.ensures)
    ∙ (once_leads F [] c.interfaces.result.now
    ∙ ap (λ (is : List ℕ). added_all [] (flat_map F is)) c.interfaces.ensures)))
