-- Of which methods an index is.
use Rattle.std.specs.Prelude.{List, map}
use Rattle.et_program.specs.declared.tables.method_index.MethodIndex.{MethodIndex}
use Rattle.et_program.specs.declared.info.MethodInfo.{MethodInfo}
use Rattle.et_program.specs.Order.{method_key, IsOrder}

-- the index has these in their order
abbrev pub FindsMethods : MethodIndex → List MethodInfo → Type 0
FindsMethods x methods = IsOrder (map method_key methods) x.order.entries.items
