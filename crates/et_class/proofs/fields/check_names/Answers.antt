use Rattle.std.proofs.Common.{◌≡◌, ◌+◌, length, ap, subst, ◌∙◌, Bool, arith, [], ◌∷◌}
use Rattle.et_base.specs.Marks.{first_from, mark}
use Rattle.et_class.specs.declared.fault.TheConstants.{ATTRIBUTE}
use Rattle.et_class.specs.Layout.{attribute_of, attribute_bytes}
use Rattle.et_class.specs.Fields.{attribute_marks}
use Rattle.et_class.proofs.Along.{Looked, looked_more, looked_end}
use Rattle.et_class.proofs.fields.check_names.Goals as goal

pub attributes-preserved : goal.attributes-preserved
unfolding first_from
attributes-preserved c =
    let size : c.attributes.place + length (attribute_bytes (attribute_of c.a-item.result)) ≡ c.attributes.place + (6 + c.len.result) = omega arith in
    subst (λ p. Looked attribute_of attribute_bytes (attribute_marks c.args.pool.now.slots) c.args.first c.mark-found.result c.args.attributes.now c.args.start (c.attributes.a-index + 1) p) size
    (looked_more attribute_of attribute_bytes (attribute_marks c.args.pool.now.slots) c.args.first c.attributes.found c.mark-found.result c.args.attributes.now c.args.start c.attributes.a-index c.attributes.place c.a-item.result c.attributes.invariant c.attributes-test.true c.a-item.is
    (c.mark-found.ensures ∙ ap (λ (b : Bool). first_from c.attributes.found (mark c.attributes.place ATTRIBUTE b ∷ [])) c.is_utf8.ensures))

pub returns : goal.returns
returns c = looked_end attribute_of attribute_bytes (attribute_marks c.args.pool.now.slots) c.args.first c.attributes.found c.args.attributes.now c.args.start c.attributes.a-index c.attributes.place c.attributes.invariant c.attributes-test.false
