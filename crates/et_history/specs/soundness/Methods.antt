-- Methods that resolution and selection find.
use Rattle.std.specs.Prelude.{◌≡◌, ℕ, ◌<◌, false, List, length}
use Rattle.et_program.specs.Entries.{Linked, method_at, is_static}

-- a method of the program with this name and descriptor
pub record IsMethod (p : Linked) (name type : List ℕ) (m : ℕ) : Type 0 where
  pub within : m < length p.methods
  pub named : (method_at p m).name ≡ name
  pub descriptor : (method_at p m).descriptor ≡ type

-- .. that is called on an object
pub record IsInstanceMethod (p : Linked) (name type : List ℕ) (m : ℕ) : Type 0 where
  pub method : IsMethod p name type m
  pub instance : is_static p m ≡ false
