use Rattle.std.proofs.Common.{Bool, true, cond, ap, ◌∙◌}
use Rattle.std.proofs.lemmas.Map.Text.{is_eq-slice_cmp}
use Rattle.et_text.specs.NameSets.{has_name}
use Rattle.et_text.proofs.names.add_name.Goals as goal

pub returns : goal.returns
returns c = (
  c.in_ok-key.key,
  c.in_ok-key.ensures.items ∙ c.as_slice.ensures,
  c.in_ok-added.ensures.added,
  λ q. c.in_ok-added.ensures.updates.0 q ∙ ap (λ (b : Bool). cond b true (has_name c.args.names.now q)) (is_eq-slice_cmp c.in_ok-key.key.items q.items),
)
