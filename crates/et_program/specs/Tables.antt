-- What is true of the tables that a program keeps, and of the indices beside them.
use Rattle.std.specs.Prelude.{◌≡◌, ℕ, ◌<◌, ◌^◌, List, length, map, All, IfSome, Option, None}
use Rattle.std.specs.List.{slice_index_or}
use Rattle.et_program.specs.declared.info.MethodInfo.{MethodInfo}
use Rattle.et_program.specs.declared.info.FieldInfo.{FieldInfo}
use Rattle.et_program.specs.declared.kind.Leaf.{Leaf}
use Rattle.et_program.specs.declared.kind.Leaf.TheVariants.{Base, Class}
use Rattle.et_program.specs.Entries.{ClassInfoOf, ClassEntry, Linked}
use Rattle.et_program.specs.Members.{base_array}
use Rattle.et_program.specs.Order.{class_key, method_key, field_key, IsOrder}

-- the class under the dimensions is one of the first n
abbrev pub IsLeafBelow : ℕ → Leaf → Type 0
IsLeafBelow n (Base b) = Unit {0}
IsLeafBelow n (Class c) = c < n

-- each class that this one names is one of the first n
pub record IsWithinTables (n : ℕ) (c : ClassEntry) : Type 0 where
  pub supers : All (λ k. k < n) c.supers
  pub superinterfaces : All (λ k. k < n) c.superinterfaces
  pub field_order : All (λ k. k < n) c.field_order
  pub init_order : All (λ k. k < n) c.init_order
  pub leaf : IsLeafBelow n c.kind.leaf
  pub array : IfSome c.array (λ k. k < n)

-- each class, method and field that a class tells of is one of the first so many
pub record IsInfoWithin (classes methods fields : ℕ) (c : ClassInfoOf) : Type 0 where
  pub clinit : IfSome c.clinit (λ m. m < methods)
  pub prerequisites : All (λ k. k < classes) c.prerequisites
  pub constants : All (λ f. f < fields) c.constants

pub record IsTabled (p : Linked) : Type 0 where
  pub classes : All (IsWithinTables (length p.classes)) p.classes
  pub infos : All (λ (c : ClassEntry). IsInfoWithin (length p.classes) (length p.methods) (length p.fields) c.info) p.classes
  pub methods : All (λ (m : MethodInfo). m.class < length p.classes) p.methods
  pub fields : All (λ (f : FieldInfo). f.class < length p.classes) p.fields
  pub statics : All (λ f. f < length p.fields) p.statics
  pub file_methods : All (λ m. m < length p.methods) p.file_methods
  pub main : p.main < length p.methods
  pub few_classes : length p.classes < 2 ^ 32
  pub few_methods : length p.methods < 2 ^ 32
  pub few_fields : length p.fields < 2 ^ 32

-- THE INDICES: the orders of the three tables, and the array classes over base types
pub record AreIndexed (p : Linked) (base_arrays : List (Option ℕ)) (classes methods fields : List (ℕ × ℕ)) : Type 0 where
  pub classes_order : IsOrder (map class_key p.classes) classes
  pub methods_order : IsOrder (map method_key p.methods) methods
  pub fields_order : IsOrder (map field_key p.fields) fields
  pub base_arrays_found : (kind : ℕ) → kind < 256 → slice_index_or base_arrays kind None ≡ base_array p kind
