-- What contracts see of the tables that a program is made of.
use Rattle.et_program.specs.declared.tables.Tables.{Tables}
use Rattle.et_program.specs.Entries.{Linked}

abbrev pub shown_tables : Tables → Linked
shown_tables t = record {
  classes = t.classes.items;
  methods = t.methods.items;
  fields = t.fields.items;
  statics = t.statics.items;
  file_methods = t.file_methods.items;
  main = t.main;
  pools = t.pools.items;
}
