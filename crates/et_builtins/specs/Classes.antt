-- An argument of one class, by the name of its class.
use Rattle.et_program.specs.BootNames.{built_in_class_name}
use Rattle.et_event.specs.BuiltIns.{ClassArgument}
use Rattle.et_builtins.specs.declared.classes.ClassArgument as declared

abbrev pub named : declared.ClassArgument → ClassArgument
named a = record { place = a.place; class = built_in_class_name a.class }
