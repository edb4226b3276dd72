-- Operands that are taken: those below them, and what they refer to.
use Rattle.std.proofs.Common.{◌≡◌, ℕ, ◌+◌, ◌≤◌, true, List, [], ◌∷◌, length, Option, Some, None, refl, subst, arith, Contains}
use Rattle.std.specs.Prelude.{ℤ}
use Rattle.et_base.specs.declared.value.Value.{Value}
use Rattle.et_base.specs.declared.value.Value.TheVariants.{Unset, Int, Long, LongHigh, Null, Ref}
use Rattle.et_base.proofs.Lists.{Contains-here, Contains-there}
use Rattle.et_heap.specs.Objects.{Objects, IsHeld, referent_value}
use Rattle.et_heap.specs.Refs.{refs_of}
use Rattle.et_event.specs.PoolOperands.Operand.{Operand}
use Rattle.et_event.specs.PoolOperands.Operand.TheVariants as operand
use Rattle.et_event.specs.Checks.{Reference, with_int, with_long, with_reference, with_value}
use Rattle.et_event.specs.Sound.{is_of_kind}

-- there are at most so many operands, and what they refer to is held
pub record AreOperands (heap : Objects) (k : ℕ) (ops : List Value) : Type 0 where
  pub few : length ops ≤ k
  pub held : (o : ℕ) → Contains (refs_of ops) o → IsHeld heap o

abbrev pub IsHeldReference : Objects → Reference → Type 0
IsHeldReference heap r = (o : ℕ) → r ≡ Some o → IsHeld heap o

module _ {A : Type 0} (P : A → Type 0) (refused : A) (ill : P refused) (heap : Objects) (k : ℕ) where
  pub taken_int : (ops : List Value) (go : ℤ → List Value → A) → AreOperands heap k ops → ((n : ℤ) (below : List Value) → AreOperands heap k below → length below + 1 ≤ k → P (go n below)) → P (with_int refused ops go)
  taken_int [] go a h = ill
  taken_int (Unset ∷ below) go a h = ill
  taken_int (Int n ∷ below) go a h = h n below (record { few = omega (arith, a.few); held = a.held }) (omega (arith, a.few))
  taken_int (Long n ∷ below) go a h = ill
  taken_int (LongHigh ∷ below) go a h = ill
  taken_int (Null ∷ below) go a h = ill
  taken_int (Ref o ∷ below) go a h = ill

  taken_high : (ops : List Value) (go : ℤ → List Value → A) → AreOperands heap k (LongHigh ∷ ops) → ((n : ℤ) (below : List Value) → AreOperands heap k below → length below + 2 ≤ k → P (go n below)) → P (with_long refused (LongHigh ∷ ops) go)
  taken_high [] go a h = ill
  taken_high (Unset ∷ below) go a h = ill
  taken_high (Int n ∷ below) go a h = ill
  taken_high (Long n ∷ below) go a h = h n below (record { few = omega (arith, a.few); held = a.held }) (omega (arith, a.few))
  taken_high (LongHigh ∷ below) go a h = ill
  taken_high (Null ∷ below) go a h = ill
  taken_high (Ref o ∷ below) go a h = ill

  pub taken_long : (ops : List Value) (go : ℤ → List Value → A) → AreOperands heap k ops → ((n : ℤ) (below : List Value) → AreOperands heap k below → length below + 2 ≤ k → P (go n below)) → P (with_long refused ops go)
  taken_long [] go a h = ill
  taken_long (Unset ∷ below) go a h = ill
  taken_long (Int n ∷ below) go a h = ill
  taken_long (Long n ∷ below) go a h = ill
  taken_long (LongHigh ∷ below) go a h = taken_high below go a h
  taken_long (Null ∷ below) go a h = ill
  taken_long (Ref o ∷ below) go a h = ill

  null_held : IsHeldReference heap None
  null_held o e = absurd (nothing e)
    where
      nothing : None ≡ Some o → ⊥
      nothing q = cc

  ref_held : (o : ℕ) → IsHeld heap o → IsHeldReference heap (Some o)
  ref_held o held q e = subst (λ (i : ℕ). IsHeld heap i) (same e) held
    where
      same : Some o ≡ Some q → o ≡ q
      same x = cc

  pub taken_reference : (ops : List Value) (go : Reference → List Value → A) → AreOperands heap k ops → ((r : Reference) (below : List Value) → IsHeldReference heap r → AreOperands heap k below → length below + 1 ≤ k → P (go r below)) → P (with_reference refused ops go)
  taken_reference [] go a h = ill
  taken_reference (Unset ∷ below) go a h = ill
  taken_reference (Int n ∷ below) go a h = ill
  taken_reference (Long n ∷ below) go a h = ill
  taken_reference (LongHigh ∷ below) go a h = ill
  taken_reference (Null ∷ below) go a h = h None below null_held (record { few = omega (arith, a.few); held = a.held }) (omega (arith, a.few))
  taken_reference (Ref o ∷ below) go a h =
      h (Some o) below (ref_held o (a.held o (Contains-here o (refs_of below)))) (record { few = omega (arith, a.few); held = λ q c. a.held q (Contains-there o (refs_of below) q c) }) (omega (arith, a.few))

reference_kind : (r : Reference) → is_of_kind (Some operand.Reference) (referent_value r) ≡ true
reference_kind None = refl
reference_kind (Some o) = refl

-- .. a value of a kind
pub taken_value : {A : Type 0} (P : A → Type 0) (refused : A) (heap : Objects) (k : ℕ) (kind : Option Operand) (ops : List Value) (go : Value → List Value → A) → P refused → AreOperands heap k ops → ((v : Value) (below : List Value) → is_of_kind kind v ≡ true → AreOperands heap k below → length below + 1 ≤ k → P (go v below))
    → P (with_value kind refused ops go)
taken_value P refused heap k None ops go ill a h = ill
taken_value P refused heap k (Some operand.Int) ops go ill a h = taken_int P refused ill heap k ops (λ n. go (Int n)) a (λ n below b few. h (Int n) below refl b few)
taken_value P refused heap k (Some operand.Long) ops go ill a h = taken_long P refused ill heap k ops (λ n. go (Long n)) a (λ n below b few. h (Long n) below refl b (omega arith))
taken_value P refused heap k (Some operand.Reference) ops go ill a h = taken_reference P refused ill heap k ops (λ r. go (referent_value r)) a (λ r below held b few. h (referent_value r) below (reference_kind r) b few)
