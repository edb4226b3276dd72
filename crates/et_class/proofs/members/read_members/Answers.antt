use Rattle.std.proofs.Common.{◌+◌, List, [], length, ap, ◌∙◌, arith}
use Rattle.std.specs.List.{flat_map}
use Rattle.et_base.specs.Numbers.{AreBytes}
use Rattle.et_base.specs.Marks.{first_from}
use Rattle.et_class.specs.declared.member.Attribute.{Attribute}
use Rattle.et_class.specs.Layout.{attribute_bytes, attributes_of, member_list}
use Rattle.et_class.specs.Along.{along}
use Rattle.et_class.specs.Fields.{attribute_marks}
use Rattle.et_class.proofs.Membered.{after_count, after_members, after_attributes, members_read, members_found}
use Rattle.et_class.proofs.members.read_members.Goals as goal

pub check_names-found-requires : goal.check_names-found-requires
check_names-found-requires c =
    let r = after_attributes c.args.bytes.now c.in_ok-methods.at (attributes_of c.in_ok-attributes.attributes.items) c.in_ok-attributes.end (λ i. (c.type_inv.bytes i).fits) c.in_ok-attributes.ensures.items in
    let same = ap (λ (xs : List Attribute). length (flat_map attribute_bytes (attributes_of xs))) c.deref.ensures.value in
    omega (arith, r, same, c.in_ok-attributes.ensures.room)

pub returns : goal.returns
returns c =
    let fits : AreBytes c.args.bytes.now = λ i. (c.type_inv.bytes i).fits in
    let f = after_members c.args.bytes.now c.args.at c.in_ok-count.count c.in_ok-count.at (member_list c.in_ok-fields.fields.items) c.in_ok-fields.at fits c.in_ok-count.ensures c.in_ok-fields.ensures.read in
    let m = after_members c.args.bytes.now c.in_ok-fields.at c.in_ok-count-2.count c.in_ok-count-2.at (member_list c.in_ok-methods.methods.items) c.in_ok-methods.at fits c.in_ok-count-2.ensures c.in_ok-methods.ensures.read in
    let p1 = after_count c.args.bytes.now c.args.at c.in_ok-count.count c.in_ok-count.at fits c.in_ok-count.ensures in
    let p2 = after_count c.args.bytes.now c.in_ok-fields.at c.in_ok-count-2.count c.in_ok-count-2.at fits c.in_ok-count-2.ensures in
    record {
      read = members_read c.args.bytes.now c.args.at (member_list c.in_ok-fields.fields.items) (member_list c.in_ok-methods.methods.items) (attributes_of c.in_ok-attributes.attributes.items) c.in_ok-fields.at c.in_ok-methods.at c.in_ok-count.count c.in_ok-count.at c.in_ok-count-2.count c.in_ok-count-2.at c.in_ok-attributes.end
          c.in_ok-count.ensures c.in_ok-fields.ensures.read c.in_ok-count-2.ensures c.in_ok-methods.ensures.read c.in_ok-attributes.ensures.items c.if-end-bytes.false;
      found_is = members_found c.args.pool.now.slots c.args.interface c.args.first c.in_ok-fields.found c.in_ok-methods.found c.check_names-found.result c.args.at (member_list c.in_ok-fields.fields.items) (member_list c.in_ok-methods.methods.items) (attributes_of c.in_ok-attributes.attributes.items) c.in_ok-count.at c.in_ok-count-2.at (c.in_ok-methods.at + 2)
          p1 c.in_ok-fields.ensures.found_is (omega (arith, p2, f)) c.in_ok-methods.ensures.found_is (omega (arith, m, f))
          (c.check_names-found.ensures ∙ ap (λ (xs : List Attribute). first_from c.in_ok-methods.found (along attribute_bytes (attribute_marks c.args.pool.now.slots) [] (c.in_ok-methods.at + 2) (attributes_of xs))) c.deref.ensures.value);
      constants = c.in_ok-fields.ensures.constants;
      no_code = c.in_ok-fields.ensures.no_code;
      codes = c.in_ok-methods.ensures.codes;
      no_constants = c.in_ok-methods.ensures.no_constants;
    }
