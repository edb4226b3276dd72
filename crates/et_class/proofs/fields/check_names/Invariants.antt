use Rattle.et_class.specs.Layout.{attribute_of, attribute_bytes}
use Rattle.et_class.specs.Fields.{attribute_marks}
use Rattle.et_class.proofs.Along.{Looked}
use Rattle.et_class.proofs.fields.check_names.Given as goal

abbrev pub invariant-attributes : goal.invariant-attributes
invariant-attributes l = Looked attribute_of attribute_bytes (attribute_marks l.pool.slots) l.fn.first l.found l.attributes l.start l.a-index l.place
