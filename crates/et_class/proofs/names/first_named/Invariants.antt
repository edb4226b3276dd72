use Rattle.std.proofs.Common.{◌≡◌, map, drop}
use Rattle.std.specs.List.{find}
use Rattle.et_class.specs.Layout.{attribute_of}
use Rattle.et_class.specs.Names.{is_attribute_named}
use Rattle.et_class.proofs.names.first_named.Given as goal

abbrev pub invariant-attributes : goal.invariant-attributes
invariant-attributes l = find (is_attribute_named l.pool.slots l.name) (map attribute_of (drop l.a-index l.attributes)) ≡ find (is_attribute_named l.pool.slots l.name) (map attribute_of l.attributes)
