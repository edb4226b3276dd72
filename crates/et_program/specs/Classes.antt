-- THE CLASSES OF A PROGRAM, by what is known of the set and of its array classes.
use Rattle.std.specs.Prelude.{ℕ, Bool, if◌then◌else◌, List, [], ◌∷◌, ◌++◌, Option, None}
use Rattle.std.specs.List.{slice_index_or}
use Rattle.std.specs.Option.{option_to_list}
use Rattle.et_hierarchy.specs.Outline.{Outline}
use Rattle.et_hierarchy.specs.Links.{LinkEntry, no_links}
use Rattle.et_hierarchy.specs.Ancestry.{Ancestry, ancestry_at}
use Rattle.et_hierarchy.specs.Initialization.{interfaces_to_run, init_order}
use Rattle.et_program.specs.declared.info.Element.TheVariants.{NoArray}
use Rattle.et_program.specs.declared.kind.Leaf.TheVariants.{Class}
use Rattle.et_program.specs.Entries.{ClassEntry}
use Rattle.et_program.specs.ArrayTypes.{array_over, element_of, kind_of}

-- what is known of all classes
pub record Heads : Type 0 where
  pub table : List LinkEntry
  pub rows : List Ancestry
  pub flags : List ℕ
  -- how many slots an instance of a class has
  pub slots : ℕ → ℕ
  -- whether an interface has a method that makes it be initialized
  pub needs : ℕ → Bool
  pub clinit : ℕ → Option ℕ
  pub constants : ℕ → List ℕ
  -- the class of the set of a name, and the array class of a name
  pub place : List ℕ → Option ℕ
  pub array : List ℕ → Option ℕ

-- what has to be initialized before a class (5.5): its superclass, and then the superinterfaces by its own interface
-- list, each after its own superinterfaces, that have a method to run; nothing before an interface
abbrev pub prerequisites_of : Heads → ℕ → Bool → List ℕ
prerequisites_of h k is_interface =
    if is_interface then []
    else option_to_list (slice_index_or h.table k no_links).above ++ interfaces_to_run h.needs h.rows (slice_index_or h.table k no_links)

-- class k, which is of the set
abbrev pub set_class : Heads → ℕ → Outline → ClassEntry
set_class h k c = record {
  info = record {
    name = c.name;
    flags = slice_index_or h.flags k 0;
    element = NoArray;
    slots = h.slots k;
    clinit = h.clinit k;
    prerequisites = prerequisites_of h k c.is_interface;
    constants = h.constants k;
  };
  supers = (ancestry_at h.rows k).supers;
  superinterfaces = (ancestry_at h.rows k).superinterfaces;
  field_order = (ancestry_at h.rows k).field_order;
  init_order = init_order c.is_interface h.needs h.table h.rows k;
  kind = record { dimensions = 0; leaf = Class k };
  array = h.array (array_over c.name);
}

-- the places of the classes that stand above every array class, in the table of built-in classes
abbrev pub object : ℕ
object = 0

abbrev pub cloneable : ℕ
cloneable = 2

abbrev pub serializable : ℕ
serializable = 4

-- public, final and abstract
abbrev pub array_flags : ℕ
array_flags = 0x0411

-- class k, which is the array class of a name: Object is its superclass, and Cloneable and Serializable are its
-- superinterfaces (4.10.1.2)
abbrev pub array_class : Heads → ℕ → List ℕ → ClassEntry
array_class h k name = record {
  info = record {
    name = name;
    flags = array_flags;
    element = element_of h.place h.array name;
    slots = 0;
    clinit = None;
    prerequisites = [];
    constants = [];
  };
  supers = object ∷ [];
  superinterfaces = cloneable ∷ serializable ∷ [];
  field_order = k ∷ cloneable ∷ object ∷ serializable ∷ [];
  init_order = k ∷ [];
  kind = kind_of h.place name;
  array = h.array (array_over name);
}
