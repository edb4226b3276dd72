use Rattle.std.proofs.Common.{◌≡◌, ◌+◌, ◌||◌, length, map, take, sym, ap, subst, ◌∙◌, Bool, arith, [], ◌∷◌}
use Rattle.std.specs.List.{list_any}
use Rattle.et_base.specs.Marks.{first_from, mark}
use Rattle.et_class.specs.declared.fault.TheConstants.{ATTRIBUTE}
use Rattle.et_class.specs.Layout.{attribute_of, attribute_bytes, member_of}
use Rattle.et_class.specs.Fields.{field_attribute_marks, is_field_attribute, is_constant_value}
use Rattle.et_class.proofs.Along.{Looked, looked_more, looked_end, any_more}
use Rattle.et_class.proofs.fields.check_field_attributes.Goals as goal

pub attributes-preserved : goal.attributes-preserved
unfolding first_from
attributes-preserved c =
    let size : c.attributes.place + length (attribute_bytes (attribute_of c.a-item.result)) ≡ c.attributes.place + (6 + c.len.result) = omega arith in
    record {
      looked = subst (λ p. Looked attribute_of attribute_bytes (field_attribute_marks c.args.pool.now.slots (member_of c.args.field.now)) c.args.first c.mark-found.result c.args.attributes.now c.args.start (c.attributes.a-index + 1) p) size
          (looked_more attribute_of attribute_bytes (field_attribute_marks c.args.pool.now.slots (member_of c.args.field.now)) c.args.first c.attributes.found c.mark-found.result c.args.attributes.now c.args.start c.attributes.a-index c.attributes.place c.a-item.result c.attributes.invariant.looked c.attributes-test.true c.a-item.is
          (c.mark-found.ensures
          ∙ (ap (λ (b : Bool). first_from c.attributes.found (mark c.attributes.place ATTRIBUTE b ∷ [])) c.is_attribute_well.ensures
          ∙ ap (λ (b : Bool). first_from c.attributes.found (mark c.attributes.place ATTRIBUTE (is_field_attribute c.args.pool.now.slots (member_of c.args.field.now) b (attribute_of c.a-item.result)) ∷ [])) c.attributes.invariant.seen)));
      seen =
          ap (λ (b : Bool). b || c.is_value-seen.result) c.attributes.invariant.seen
          ∙ (ap (λ (b : Bool). list_any (is_constant_value c.args.pool.now.slots) (map attribute_of (take c.attributes.a-index c.args.attributes.now)) || b) c.is_value-seen.ensures
          ∙ sym (any_more attribute_of (is_constant_value c.args.pool.now.slots) c.args.attributes.now c.attributes.a-index c.a-item.result c.attributes-test.true c.a-item.is));
    }

pub returns : goal.returns
returns c = looked_end attribute_of attribute_bytes (field_attribute_marks c.args.pool.now.slots (member_of c.args.field.now)) c.args.first c.attributes.found c.args.attributes.now c.args.start c.attributes.a-index c.attributes.place c.attributes.invariant.looked c.attributes-test.false
