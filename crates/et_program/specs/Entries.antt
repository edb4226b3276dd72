-- What contracts see of a program: its classes, methods and fields, each named by its place.
use Rattle.std.specs.Prelude.{ℕ, Bool, false, List, [], Option, None}
use Rattle.std.specs.List.{slice_index_or}
use Rattle.et_class.specs.Names.{has}
use Rattle.et_class.specs.declared.flags.TheConstants.{PRIVATE, STATIC, INTERFACE, ABSTRACT}
use Rattle.et_class.specs.Entries.{Constants}
use Rattle.et_program.specs.declared.info.Element.{Element}
use Rattle.et_program.specs.declared.info.Element.TheVariants.{NoArray}
use Rattle.et_program.specs.declared.info.MethodInfo.{MethodInfo}
use Rattle.et_program.specs.declared.info.FieldInfo.{FieldInfo}
use Rattle.et_program.specs.declared.kind.Kind.{Kind}
use Rattle.et_program.specs.declared.kind.Leaf.TheVariants.{Base}

-- what a program tells of a class
pub record ClassInfoOf : Type 0 where
  pub name : List ℕ
  pub flags : ℕ
  pub element : Element
  -- how many slots an instance has
  pub slots : ℕ
  pub clinit : Option ℕ
  -- what has to be initialized before it
  pub prerequisites : List ℕ
  -- the static fields that have a constant
  pub constants : List ℕ

-- a class
pub record ClassEntry : Type 0 where
  pub info : ClassInfoOf
  -- the direct superclass and what is above it, nearest first
  pub supers : List ℕ
  -- all superinterfaces, each once, in the order of method resolution
  pub superinterfaces : List ℕ
  -- the class and all that is above it, each once, in the order of field resolution
  pub field_order : List ℕ
  -- what is initialized with it, and then itself
  pub init_order : List ℕ
  -- its dimensions, and the type under them
  pub kind : Kind
  -- the class of the arrays of it
  pub array : Option ℕ

-- a program
pub record Linked : Type 0 where
  pub classes : List ClassEntry
  pub methods : List MethodInfo
  pub fields : List FieldInfo
  -- the static fields in the order of their slots
  pub statics : List ℕ
  -- the methods of the files in their order
  pub file_methods : List ℕ
  pub main : ℕ
  -- the pools of the built-in classes and of those of the files
  pub pools : List Constants

abbrev pub no_class : ClassEntry
no_class = record {
  info = record { name = []; flags = 0; element = NoArray; slots = 0; clinit = None; prerequisites = []; constants = [] };
  supers = [];
  superinterfaces = [];
  field_order = [];
  init_order = [];
  kind = record { dimensions = 0; leaf = Base 0 };
  array = None;
}

abbrev pub no_method : MethodInfo
no_method = record { class = 0; name = []; descriptor = []; flags = 0; code = None; deferred = false }

abbrev pub no_field : FieldInfo
no_field = record { class = 0; name = []; descriptor = []; flags = 0; slot = 0; constant = 0 }

abbrev pub class_at : Linked → ℕ → ClassEntry
class_at p c = slice_index_or p.classes c no_class

abbrev pub method_at : Linked → ℕ → MethodInfo
method_at p m = slice_index_or p.methods m no_method

abbrev pub field_at : Linked → ℕ → FieldInfo
field_at p f = slice_index_or p.fields f no_field

abbrev pub is_interface : Linked → ℕ → Bool
is_interface p c = has (class_at p c).info.flags INTERFACE

abbrev pub is_static : Linked → ℕ → Bool
is_static p m = has (method_at p m).flags STATIC

abbrev pub is_private : Linked → ℕ → Bool
is_private p m = has (method_at p m).flags PRIVATE

abbrev pub is_abstract : Linked → ℕ → Bool
is_abstract p m = has (method_at p m).flags ABSTRACT
