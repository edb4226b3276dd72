-- What contracts see of a row of the tables.
use Rattle.std.specs.Prelude.{ℕ, List, map, option_map}
use Rattle.std.specs.Option.{option_copied}
use Rattle.et_boot.specs.declared.entries.BootClass.{BootClass}
use Rattle.et_boot.specs.declared.entries.BootField.{BootField}
use Rattle.et_boot.specs.declared.entries.BootMethod.{BootMethod}
use Rattle.et_boot.specs.declared.entries.BootCode.{BootCode}
use Rattle.et_boot.specs.declared.built_ins.BuiltIn.{BuiltIn}
use Rattle.et_boot.specs.declared.built_ins.BuiltInRow.{BuiltInRow}
use Rattle.et_boot.specs.declared.text_methods.TextMethod.{TextMethod}
use Rattle.et_boot.specs.declared.text_methods.TextMethodRow.{TextMethodRow}
use Rattle.et_boot.specs.Classes.{BootClassOf, BootFieldOf, BootMethodOf, BootCodeOf}

abbrev pub shown_field : BootField → BootFieldOf
shown_field f = record { name = f.name.now; descriptor = f.descriptor.now; flags = f.flags }

abbrev pub shown_code : BootCode → BootCodeOf
shown_code c = record { max_stack = c.max_stack; max_locals = c.max_locals; code = c.code.now }

abbrev pub shown_method : BootMethod → BootMethodOf
shown_method m = record { name = m.name.now; descriptor = m.descriptor.now; flags = m.flags; code = option_map shown_code m.code; deferred = m.deferred }

abbrev pub shown : BootClass → BootClassOf
shown c = record {
  name = c.name.now;
  super_name = option_copied c.super_name;
  flags = c.flags;
  interfaces = map (λ i. i.now) c.interfaces.now;
  pool = c.pool.now;
  slots = c.slots;
  fields = map shown_field c.fields.now;
  methods = map shown_method c.methods.now;
}

abbrev pub shown_row : BuiltInRow → List ℕ × List ℕ × BuiltIn
shown_row row = (row.name.now, row.descriptor.now, row.built_in)

abbrev pub shown_text_row : TextMethodRow → List ℕ × List ℕ × List ℕ × TextMethod
shown_text_row row = (row.class.now, row.name.now, row.descriptor.now, row.method)
