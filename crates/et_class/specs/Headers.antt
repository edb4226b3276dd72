-- What the code's record of a header stands for.
use Rattle.et_class.specs.declared.header.Header.{Header}
use Rattle.et_class.specs.Reading.{HeaderOf}

abbrev pub header_parts : Header → HeaderOf
header_parts h = record { flags = h.access_flags; this = h.this_class; super = h.super_class; interfaces = h.interfaces.items }
