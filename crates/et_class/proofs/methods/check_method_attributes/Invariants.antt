use Rattle.std.proofs.Common.{◌≡◌, map, take}
use Rattle.std.specs.List.{list_any}
use Rattle.et_class.specs.Layout.{attribute_of, attribute_bytes, member_of}
use Rattle.et_class.specs.Methods.{is_code, method_attribute_marks}
use Rattle.et_class.specs.Kept.{kept_among}
use Rattle.et_class.proofs.Along.{Looked}
use Rattle.et_class.proofs.methods.check_method_attributes.Given as goal

abbrev pub invariant-attributes : goal.invariant-attributes
invariant-attributes l = record {
  looked : Looked attribute_of attribute_bytes (method_attribute_marks l.constants.pool.now.slots (member_of l.method)) l.fn.first l.found l.attributes l.start l.a-index l.place;
  seen : l.seen ≡ list_any (is_code l.constants.pool.now.slots) (map attribute_of (take l.a-index l.attributes));
  code : l.code ≡ kept_among l.constants.pool.now.slots (map attribute_of (take l.a-index l.attributes));
}
