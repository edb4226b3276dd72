use Rattle.std.proofs.Common.{Bool, true, cond, ap, ◌∙◌, refl}
use Rattle.et_text.specs.NameSets.{MethodKey, has_key}
use Rattle.et_text.proofs.TiedNames.{method_tied}
use Rattle.et_text.proofs.names.add_method.Goals as goal

pub returns : goal.returns
returns c =
    let key : MethodKey = (c.args.class, c.in_ok-name.name, c.in_ok-descriptor.descriptor) in (
      key,
      refl,
      c.in_ok-name.ensures.items ∙ c.as_slice.ensures,
      c.in_ok-descriptor.ensures.items ∙ c.as_slice-2.ensures,
      c.in_ok-added.ensures.added,
      λ q. c.in_ok-added.ensures.updates.0 q ∙ ap (λ (b : Bool). cond b true (has_key c.args.names.now q)) (method_tied key q),
    )
