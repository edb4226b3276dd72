-- Interfaces among the classes above a class (JVMS 5.3.5).
use Rattle.std.specs.Prelude.{◌≡◌, ℕ, ◌==◌, true, false}
use Rattle.std.specs.List.{list_any}
use Rattle.et_program.specs.Entries.{Linked, class_at, is_interface}
use Rattle.et_program.specs.Members.{is_above}

-- no superclass of a class is an interface, and each superinterface is one
pub record KnowsInterfaces (p : Linked) : Type 0 where
  pub supers : (c k : ℕ) → list_any (λ j. j == k) (class_at p c).supers ≡ true → is_interface p k ≡ false
  pub superinterfaces : (c k : ℕ) → is_above p k c ≡ true → is_interface p k ≡ true
