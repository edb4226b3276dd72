-- The maximally specific methods in the words of JVMS 5.4.3.3.
use Rattle.std.specs.Prelude.{◌≡◌, ℕ, false, List, Some, Contains, ◌↔◌}
use Rattle.et_program.specs.Entries.{Linked, class_at, is_private, is_static, is_abstract}
use Rattle.et_program.specs.Members.{method_in, specific_methods}

-- class i declares method m with this name and descriptor, and m is neither private nor static
pub record IsOpenMember (p : Linked) (name descriptor : List ℕ) (i m : ℕ) : Type 0 where
  pub declared : method_in p name descriptor i ≡ Some m
  pub not_private : is_private p m ≡ false
  pub not_static : is_static p m ≡ false

-- of the superinterfaces of class c, i declares such a method m, and none that has i as a superinterface declares one
pub record IsMaximallySpecific (p : Linked) (name descriptor : List ℕ) (c i m : ℕ) : Type 0 where
  pub inside : Contains (class_at p c).superinterfaces i
  pub member : IsOpenMember p name descriptor i m
  pub none_below : (j other : ℕ) → Contains (class_at p c).superinterfaces j → Contains (class_at p j).superinterfaces i → IsOpenMember p name descriptor j other → ⊥

-- the list has the maximally specific methods that aren't abstract, and no others
abbrev pub AreSpecific : Linked → List ℕ → List ℕ → ℕ → Type 0
AreSpecific p name descriptor c = (m : ℕ) → Contains (specific_methods p name descriptor c) m ↔ ((i : ℕ) × IsMaximallySpecific p name descriptor c i m × (is_abstract p m ≡ false))
