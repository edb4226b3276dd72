-- THE SET OF CLASSES that is linked: the built-in classes, and then those of the files in their order.
use Rattle.std.specs.Prelude.{ℕ, List, [], ◌++◌, map, Option, None, Some}
use Rattle.et_class.specs.Entries.{Item}
use Rattle.et_class.specs.Looks.{class_name_at}
use Rattle.et_class.specs.Names.{has}
use Rattle.et_class.specs.declared.flags.TheConstants.{INTERFACE, FINAL}
use Rattle.et_boot.specs.Classes.{BootClassOf, boot_classes}
use Rattle.et_hierarchy.specs.Outline.{Outline}
use Rattle.et_program.specs.Loaded.{LoadedClass}

-- the built-in classes
unfoldable pub boots : List BootClassOf
boots = boot_classes

abbrev pub or_empty : Option (List ℕ) → List ℕ
or_empty None = []
or_empty (Some bytes) = bytes

-- the name that the Class entry at an index gives; in a class file there is one wherever linking looks for one
abbrev pub name_of : List (Option Item) → ℕ → List ℕ
name_of slots i = or_empty (class_name_at slots i)

-- what the set has of a built-in class
abbrev pub boot_outline : BootClassOf → Outline
boot_outline c = record {
  name = c.name;
  super_name = c.super_name;
  interfaces = c.interfaces;
  is_interface = has c.flags INTERFACE;
  is_final = has c.flags FINAL;
}

-- what the set has of the class of a file
abbrev pub file_outline : LoadedClass → Outline
file_outline c = record {
  name = name_of c.pool.slots c.this;
  super_name = class_name_at c.pool.slots c.super;
  interfaces = map (name_of c.pool.slots) c.interfaces;
  is_interface = has c.flags INTERFACE;
  is_final = has c.flags FINAL;
}

abbrev pub set_of : List LoadedClass → List Outline
set_of files = map boot_outline boots ++ map file_outline files

-- the access flags of each class
abbrev pub file_flags : List LoadedClass → List ℕ
file_flags files = map (λ (c : BootClassOf). c.flags) boots ++ map (λ (c : LoadedClass). c.flags) files
