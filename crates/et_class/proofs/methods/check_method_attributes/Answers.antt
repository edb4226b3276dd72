use Rattle.std.proofs.Common.{◌≡◌, ◌+◌, ◌||◌, length, map, take, sym, ap, subst, ◌∙◌, Bool, arith}
use Rattle.std.specs.List.{list_any}
use Rattle.std.proofs.lemmas.List.{take_all}
use Rattle.et_base.specs.Marks.{first_from}
use Rattle.et_class.specs.Layout.{attribute_of, attribute_bytes, member_of}
use Rattle.et_class.specs.Methods.{is_code, method_attribute_marks, method_attribute_marks_if}
use Rattle.et_class.specs.Kept.{kept_among}
use Rattle.et_class.proofs.Along.{Looked, looked_more, looked_end, any_more, taken}
use Rattle.et_class.proofs.Found.{kept_more}
use Rattle.et_class.proofs.methods.check_method_attributes.Goals as goal

pub attributes-preserved : goal.attributes-preserved
attributes-preserved c =
    let size : c.attributes.place + length (attribute_bytes (attribute_of c.a-item.result)) ≡ c.attributes.place + (6 + c.len.result) = omega arith in
    record {
      looked = subst (λ p. Looked attribute_of attribute_bytes (method_attribute_marks c.args.constants.now.pool.now.slots (member_of c.args.method.now)) c.args.first c.in_ok-next.next c.args.attributes.now c.args.start (c.attributes.a-index + 1) p) size
          (looked_more attribute_of attribute_bytes (method_attribute_marks c.args.constants.now.pool.now.slots (member_of c.args.method.now)) c.args.first c.attributes.found c.in_ok-next.next c.args.attributes.now c.args.start c.attributes.a-index c.attributes.place c.a-item.result c.attributes.invariant.looked c.attributes-test.true c.a-item.is
          (c.in_ok-next.ensures.0 ∙ ap (λ (b : Bool). first_from c.attributes.found (method_attribute_marks_if c.args.constants.now.pool.now.slots (member_of c.args.method.now) b c.attributes.place (attribute_of c.a-item.result))) c.attributes.invariant.seen));
      seen =
          ap (λ (b : Bool). b || c.is_code_attribute-seen.result) c.attributes.invariant.seen
          ∙ (ap (λ (b : Bool). list_any (is_code c.args.constants.now.pool.now.slots) (map attribute_of (take c.attributes.a-index c.args.attributes.now)) || b) c.is_code_attribute-seen.ensures
          ∙ sym (any_more attribute_of (is_code c.args.constants.now.pool.now.slots) c.args.attributes.now c.attributes.a-index c.a-item.result c.attributes-test.true c.a-item.is));
      code =
          kept_more c.args.constants.now.pool.now.slots (map attribute_of (take c.attributes.a-index c.args.attributes.now)) (attribute_of c.a-item.result) c.attributes.seen c.attributes.code c.in_ok-next.body c.earlier_code-code.result c.attributes.invariant.seen c.attributes.invariant.code c.in_ok-next.ensures.1 c.earlier_code-code.ensures
          ∙ ap (kept_among c.args.constants.now.pool.now.slots) (taken attribute_of attribute_bytes (method_attribute_marks c.args.constants.now.pool.now.slots (member_of c.args.method.now)) c.args.attributes.now c.attributes.a-index c.a-item.result c.attributes-test.true c.a-item.is);
    }

pub returns : goal.returns
returns c =
    (looked_end attribute_of attribute_bytes (method_attribute_marks c.args.constants.now.pool.now.slots (member_of c.args.method.now)) c.args.first c.attributes.found c.args.attributes.now c.args.start c.attributes.a-index c.attributes.place c.attributes.invariant.looked c.attributes-test.false, c.attributes.invariant.code ∙ ap (λ xs. kept_among c.args.constants.now.pool.now.slots (map attribute_of xs)) (take_all c.attributes.a-index c.args.attributes.now c.attributes-test.false))
