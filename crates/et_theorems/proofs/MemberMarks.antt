-- The rules on the fields and on the methods of a class file, as parts of the rules on all of it.
use Rattle.std.proofs.Common.{ℕ, ◌+◌, ◌++◌, List, [], length}
use Rattle.et_base.specs.Marks.{Mark}
use Rattle.et_pool.specs.Looks.{end_of}
use Rattle.et_class.specs.declared.flags.TheConstants.{INTERFACE}
use Rattle.et_class.specs.Along.{along}
use Rattle.et_class.specs.Classes.{IsClassFile}
use Rattle.et_class.specs.Fields.{attribute_marks, field_marks}
use Rattle.et_class.specs.Layout.{ClassOf, attribute_bytes, counted_bytes, member_bytes, u2}
use Rattle.et_class.specs.Methods.{method_marks}
use Rattle.et_class.specs.Names.{has}
use Rattle.et_class.specs.Rules.{header_marks, header_of, pool_marks}
use Rattle.et_history.proofs.programs.Marks.{AreWell, well_before, well_behind}

module _ (bytes : List ℕ) (c : ClassOf) (is : IsClassFile bytes c) where
  abbrev place : ℕ
  place = end_of 8 c.slots + 6 + length (counted_bytes u2 c.interfaces)

  abbrev header : List Mark
  header = header_marks c.slots (end_of 8 c.slots) (header_of c)

  abbrev fields : List Mark
  fields = along member_bytes (field_marks c.slots (has c.flags INTERFACE)) [] (place + 2) c.fields

  abbrev methods : List Mark
  methods = along member_bytes (method_marks c.slots) [] (place + length (counted_bytes member_bytes c.fields) + 2) c.methods

  abbrev others : List Mark
  others = along attribute_bytes (attribute_marks c.slots) [] (place + length (counted_bytes member_bytes c.fields) + length (counted_bytes member_bytes c.methods) + 2) c.attributes

  members : AreWell (fields ++ (methods ++ others))
  members =
      let behind : AreWell (header ++ (fields ++ (methods ++ others))) = well_behind (pool_marks c.slots) (header ++ (fields ++ (methods ++ others))) (record { none = is.rules }) in
      well_behind header (fields ++ (methods ++ others)) behind

  pub well_fields : AreWell fields
  well_fields = well_before fields (methods ++ others) members

  pub well_methods : AreWell methods
  well_methods = well_before methods others (well_behind fields (methods ++ others) members)
