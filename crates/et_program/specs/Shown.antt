-- What contracts see of the record of a class.
use Rattle.et_program.specs.declared.info.ClassInfo.{ClassInfo}
use Rattle.et_program.specs.Entries.{ClassInfoOf}

abbrev pub info_of : ClassInfo → ClassInfoOf
info_of c = record {
  name = c.name;
  flags = c.flags;
  element = c.element;
  slots = c.slots;
  clinit = c.clinit;
  prerequisites = c.prerequisites.items;
  constants = c.constants.items;
}
