use Rattle.std.proofs.Common.{◌≡◌, map, take}
use Rattle.std.specs.List.{list_any}
use Rattle.et_class.specs.Layout.{attribute_of, attribute_bytes, member_of}
use Rattle.et_class.specs.Fields.{field_attribute_marks, is_constant_value}
use Rattle.et_class.proofs.Along.{Looked}
use Rattle.et_class.proofs.fields.check_field_attributes.Given as goal

abbrev pub invariant-attributes : goal.invariant-attributes
invariant-attributes l = record {
  looked : Looked attribute_of attribute_bytes (field_attribute_marks l.pool.slots (member_of l.field)) l.fn.first l.found l.attributes l.start l.a-index l.place;
  seen : l.seen ≡ list_any (is_constant_value l.pool.slots) (map attribute_of (take l.a-index l.attributes));
}
