-- THE LINKED PROGRAM: the built-in classes, then the classes of the files in their order, then the array classes; the
-- members class by class.
use Rattle.std.specs.Prelude.{◌≡◌, ℕ, Bool, not, ◌==◌, ◌&&◌, nat_lt, List, [], ◌∷◌, ◌++◌, length, Option, codes, is_some, unwrap_or}
use Rattle.std.specs.List.{position_from}
use Rattle.std.specs.Str.{bytes_eq}
use Rattle.et_class.specs.Entries.{Constants}
use Rattle.et_class.specs.Names.{has}
use Rattle.et_class.specs.declared.flags.TheConstants.{STATIC}
use Rattle.et_hierarchy.specs.Outline.{Outline, class_place}
use Rattle.et_hierarchy.specs.Links.{links}
use Rattle.et_hierarchy.specs.Ancestry.{Ancestry, IsAncestry}
use Rattle.et_program.specs.declared.info.MethodInfo.{MethodInfo}
use Rattle.et_program.specs.Entries.{ClassEntry, Linked}
use Rattle.et_program.specs.Loaded.{LoadedClass}
use Rattle.et_program.specs.Files.{boots, set_of, file_flags}
use Rattle.et_program.specs.MembersOf.{numbered, methods_of, fields_of, HasPools}
use Rattle.et_program.specs.Slots.{field_slots, placed, places_from, is_static_field}
use Rattle.et_program.specs.Heads.{has_to_run, initializer_of, constants_of}
use Rattle.et_program.specs.ArrayTypes.{arrays_met, array_names, array_at}
use Rattle.et_program.specs.Classes.{Heads, set_class, array_class}

-- the names of the array classes
abbrev pub class_names_of : List LoadedClass → List (List ℕ)
class_names_of files = array_names (class_place (set_of files)) (arrays_met files)

abbrev pub heads_of : List LoadedClass → List Ancestry → Heads
heads_of files rows = record {
  table = links (set_of files);
  rows = rows;
  flags = file_flags files;
  slots = field_slots (fields_of files) rows;
  needs = has_to_run (methods_of files);
  clinit = initializer_of (methods_of files);
  constants = constants_of (fields_of files);
  place = class_place (set_of files);
  array = array_at (length (set_of files)) (class_names_of files);
}

-- each class of the set, and then each array class
abbrev pub classes_by : Heads → List Outline → List (List ℕ) → List ClassEntry
classes_by h set names = numbered (λ k c. set_class h k c ∷ []) 0 set ++ numbered (λ k name. array_class h k name ∷ []) (length set) names

-- the method main of the first file: static main ([Ljava/lang/String;)V with code
abbrev pub is_main : MethodInfo → Bool
is_main m = (m.class == length boots) && (bytes_eq m.name (codes "main") && (bytes_eq m.descriptor (codes "([Ljava/lang/String;)V") && (has m.flags STATIC && is_some m.code)))

abbrev pub main_of : List MethodInfo → Option ℕ
main_of methods = position_from is_main 0 methods

-- the method is of a file
abbrev pub is_of_file : MethodInfo → Bool
is_of_file m = not (nat_lt m.class (length boots))

abbrev pub program_with : List LoadedClass → List Ancestry → List Constants → Linked
program_with files rows pools = record {
  classes = classes_by (heads_of files rows) (set_of files) (class_names_of files);
  methods = methods_of files;
  fields = placed (fields_of files) rows;
  statics = places_from is_static_field 0 (fields_of files);
  file_methods = places_from is_of_file 0 (methods_of files);
  main = unwrap_or (main_of (methods_of files)) 0;
  pools = pools;
}

-- the program of the files: its lists of superclasses and superinterfaces are those that the classes right above give
pub record IsProgramOf (files : List LoadedClass) (p : Linked) : Type 0 where
  pub rows : List Ancestry
  pub ancestry : IsAncestry (links (set_of files)) rows
  pub pools : HasPools files p.pools
  pub tables : p ≡ program_with files rows p.pools
