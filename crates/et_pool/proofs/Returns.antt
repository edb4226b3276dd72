-- What is returned, and the type that stands at the end of a descriptor.
use Rattle.std.proofs.Common.{◌≡◌, ℕ, Bool, true, false, cond, eqb, length, List, [], ◌∷◌, Option, Some, None, refl, sym, ap, ◌∙◌}
use Rattle.std.proofs.lemmas.Bool.{eqb-true}
use Rattle.et_base.proofs.Tests.{and_first}
use Rattle.et_pool.specs.declared.operand.Operand.{Operand}
use Rattle.et_pool.specs.declared.operand.Operand.TheVariants.{Int, Long, Reference}
use Rattle.et_pool.specs.declared.operand.Returned.TheVariants.{Void, Value}
use Rattle.et_pool.specs.Descriptors.{is_void, width_of}
use Rattle.et_pool.specs.Operands.{kind_of_letter, operand_kind, is_kind, may_return, returned_width, return_of, entries_returned, is_returnable}

pub width_returned : (s : List ℕ) → entries_returned (return_of s) ≡ returned_width s
width_returned s = elim (is_void s) as (λ b. entries_returned (cond b Void (Value (operand_kind s) (width_of s))) ≡ cond b 0 (width_of s)) [ true ↦ refl | false ↦ refl ]

no_kind : (kind : Operand) → is_kind kind None ≡ false
no_kind Int = refl
no_kind Long = refl
no_kind Reference = refl

void_letter : (a : ℕ) → eqb a 86 ≡ true → kind_of_letter a ≡ None
void_letter a e = rw (eqb-true a 86 e) refl

void_kind : (s : List ℕ) → is_void s ≡ true → operand_kind s ≡ None
unfolding is_void
void_kind [] e = refl
void_kind (a ∷ rest) e = void_letter a (and_first (eqb a 86) (eqb (length rest) 0) e)

by_kind : (kind : Operand) (other : Option Operand) (n : ℕ) (void : Bool) → (void ≡ true → other ≡ None) → is_returnable (Some kind) (cond void Void (Value other n)) ≡ is_kind kind other
by_kind kind other n true h = sym (no_kind kind) ∙ ap (is_kind kind) (sym (h refl))
by_kind kind other n false h = refl

by_none : (other : Option Operand) (n : ℕ) (void : Bool) → is_returnable None (cond void Void (Value other n)) ≡ void
by_none other n true = refl
by_none other n false = refl

pub kind_returned : (kind : Option Operand) (s : List ℕ) → is_returnable kind (return_of s) ≡ may_return kind s
kind_returned None s = by_none (operand_kind s) (width_of s) (is_void s)
kind_returned (Some kind) s = by_kind kind (operand_kind s) (width_of s) (is_void s) (void_kind s)
