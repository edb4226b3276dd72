-- What holds of the constants of a linked program, and of the order in which its classes are initialized.
use Rattle.std.specs.Prelude.{◌≡◌, ℕ, ◌<◌, All, Contains, length, slice_index_or}
use Rattle.et_program.specs.Entries.{Linked, class_at, field_at}

-- the field is one of the class, and stands in its slot among the static fields
pub record IsStaticOf (p : Linked) (c f : ℕ) : Type 0 where
  pub class : (field_at p f).class ≡ c
  pub slot : (field_at p f).slot < length p.statics
  pub stands : slice_index_or p.statics (field_at p f).slot 0 ≡ f

-- the constants of a class are fields of it, each once
pub record HasConstants (p : Linked) (c : ℕ) : Type 0 where
  pub fields : All (IsStaticOf p c) (class_at p c).info.constants
  pub once : (i j : ℕ) → i < j → j < length (class_at p c).info.constants → slice_index_or (class_at p c).info.constants i 0 < slice_index_or (class_at p c).info.constants j 0

pub record IsInOrder (p : Linked) : Type 0 where
  pub constants : (c : ℕ) → c < length p.classes → HasConstants p c
  pub within : (c : ℕ) → c < length p.classes → All (λ k. k < length p.classes) (class_at p c).init_order
  -- what is initialized with a class is initialized with each class that this one is initialized with
  pub orders : (c k j : ℕ) → c < length p.classes → Contains (class_at p c).init_order k → Contains (class_at p k).init_order j → Contains (class_at p c).init_order j
