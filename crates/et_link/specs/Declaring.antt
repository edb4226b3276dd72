-- What was read of the files, before there is a program.
use Rattle.std.specs.Prelude.{◌≡◌, ℕ, ◌<◌, ◌^◌, List, length, map, All, Some, Result, Ok, Err}
use Rattle.et_hierarchy.specs.Links.{links, HasLinksWithin}
use Rattle.et_hierarchy.specs.Faults.{IsFaultless}
use Rattle.et_hierarchy.specs.Ancestry.{Ancestry, ancestry_at, IsAncestry, IsBelow}
use Rattle.et_link.specs.declared.linking.reading.Declared.{Declared}
use Rattle.et_link.specs.declared.fault.LinkFault.{LinkFault}
use Rattle.et_class.specs.Classes.{class_of}
use Rattle.et_class.specs.Layout.{ClassOf}
use Rattle.et_class.specs.declared.class.ClassFile.{ClassFile}
use Rattle.et_program.specs.LinkFaults.{IsLinkable}
use Rattle.et_program.specs.Linking.{IsOfFile}
use Rattle.et_program.specs.ProgramOf.{main_of}
use Rattle.et_program.specs.Loaded.{LoadedClass, loaded_class}
use Rattle.et_program.specs.Files.{set_of, file_flags}
use Rattle.et_program.specs.MembersOf.{methods_of, fields_of, HasPools}
use Rattle.et_program.specs.ArrayTypes.{arrays_met}
use Rattle.et_link.specs.Refusals.{RefusesLink}

-- what is known of the set keeps within it
pub record AreRows (files : List LoadedClass) (rows : List Ancestry) : Type 0 where
  pub within : HasLinksWithin (length (set_of files)) (links (set_of files))
  pub below : (j : ℕ) → j < length (set_of files) → IsBelow (length (set_of files)) (ancestry_at rows j)

pub record IsDeclared (files : List LoadedClass) (d : Declared) : Type 0 where
  pub set_is : d.set.items ≡ set_of files
  pub table_is : d.hierarchy.table.items ≡ links (set_of files)
  pub ancestry : IsAncestry (links (set_of files)) d.hierarchy.rows.items
  pub rows_are : AreRows files d.hierarchy.rows.items
  pub flags_are : d.hierarchy.flags.items ≡ file_flags files
  pub methods_are : d.parts.methods.items ≡ methods_of files
  pub fields_are : d.parts.fields.items ≡ fields_of files
  pub pools_are : HasPools files d.parts.pools.items
  pub met_are : d.met.items ≡ arrays_met files
  pub few_classes : length d.set.items < 2 ^ 32
  pub few_methods : length d.parts.methods.items < 2 ^ 32
  pub few_fields : length d.parts.fields.items < 2 ^ 32
  pub faultless : IsFaultless (set_of files)

abbrev pub Declares : List LoadedClass → Result Declared LinkFault → Type 0
Declares files (Ok d) = IsDeclared files d
Declares files (Err e) = RefusesLink files e

-- the class was read of the bytes of a file
abbrev pub HasItsFile : ClassFile → Type 0
HasItsFile class = IsOfFile (class_of class)

-- these are the declarations of class files that may be linked, with this method as their main
pub record IsDeclaredOf (classes : List ClassOf) (d : Declared) (main : ℕ) : Type 0 where
  pub some : 0 < length classes
  pub of_files : All IsOfFile classes
  pub linkable : IsLinkable (map loaded_class classes)
  pub declared : IsDeclared (map loaded_class classes) d
  pub main_is : main_of (methods_of (map loaded_class classes)) ≡ Some main
