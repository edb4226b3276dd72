-- Operands that are taken, with what they refer to.
use Rattle.std.proofs.Common.{◌≡◌, ℕ, List, [], ◌∷◌, Option, Some, None, refl}
use Rattle.std.specs.Prelude.{ℤ}
use Rattle.et_base.specs.declared.value.Value.{Value}
use Rattle.et_base.specs.declared.value.Value.TheVariants.{Unset, Int, Long, LongHigh, Null, Ref}
use Rattle.et_heap.specs.Objects.{Objects, referent_value}
use Rattle.et_event.specs.PoolOperands.Operand.{Operand}
use Rattle.et_event.specs.PoolOperands.Operand.TheVariants as operand
use Rattle.et_event.specs.Checks.{Reference, entries_of, with_int, with_long, with_reference, with_value}
use Rattle.et_event.specs.Kinds.{or_zero}
use Rattle.et_history.specs.steps.Steps.{IsTyped}
use Rattle.et_history.specs.steps.Values.{Fine, Fines, FineSome}

pub fine_value : (heap : Objects) (r : Reference) → FineSome heap r → Fine heap (referent_value r)
fine_value heap None f = tt
fine_value heap (Some o) f = f

pub int_given : (n : ℤ) → Int n ≡ Unset → ⊥
int_given n e = cc

pub long_given : (n : ℤ) → Long n ≡ Unset → ⊥
long_given n e = cc

null_given : Null ≡ Unset → ⊥
null_given e = cc

pub ref_given : (o : ℕ) → Ref o ≡ Unset → ⊥
ref_given o e = cc

typed_int : (n : ℤ) → IsTyped (Some operand.Int) (Int n)
typed_int n = record { kind = refl; given = int_given n }

typed_long : (n : ℤ) → IsTyped (Some operand.Long) (Long n)
typed_long n = record { kind = refl; given = long_given n }

typed_reference : (r : Reference) → IsTyped (Some operand.Reference) (referent_value r)
typed_reference None = record { kind = refl; given = null_given }
typed_reference (Some o) = record { kind = refl; given = ref_given o }

module _ {A : Type 0} (P : A → Type 0) (refused : A) (ill : P refused) (heap : Objects) where
  pub any_int : (ops : List Value) (go : ℤ → List Value → A) → Fines heap ops → ((n : ℤ) (below : List Value) → Fines heap below → P (go n below)) → P (with_int refused ops go)
  any_int [] go f h = ill
  any_int (Unset ∷ below) go f h = ill
  any_int (Int n ∷ below) go f h = h n below f.1
  any_int (Long n ∷ below) go f h = ill
  any_int (LongHigh ∷ below) go f h = ill
  any_int (Null ∷ below) go f h = ill
  any_int (Ref o ∷ below) go f h = ill

  any_high : (ops : List Value) (go : ℤ → List Value → A) → Fines heap ops → ((n : ℤ) (below : List Value) → Fines heap below → P (go n below)) → P (with_long refused (LongHigh ∷ ops) go)
  any_high [] go f h = ill
  any_high (Unset ∷ below) go f h = ill
  any_high (Int n ∷ below) go f h = ill
  any_high (Long n ∷ below) go f h = h n below f.1
  any_high (LongHigh ∷ below) go f h = ill
  any_high (Null ∷ below) go f h = ill
  any_high (Ref o ∷ below) go f h = ill

  pub any_long : (ops : List Value) (go : ℤ → List Value → A) → Fines heap ops → ((n : ℤ) (below : List Value) → Fines heap below → P (go n below)) → P (with_long refused ops go)
  any_long [] go f h = ill
  any_long (Unset ∷ below) go f h = ill
  any_long (Int n ∷ below) go f h = ill
  any_long (Long n ∷ below) go f h = ill
  any_long (LongHigh ∷ below) go f h = any_high below go f.1 h
  any_long (Null ∷ below) go f h = ill
  any_long (Ref o ∷ below) go f h = ill

  pub any_reference : (ops : List Value) (go : Reference → List Value → A) → Fines heap ops → ((r : Reference) (below : List Value) → FineSome heap r → Fines heap below → P (go r below)) → P (with_reference refused ops go)
  any_reference [] go f h = ill
  any_reference (Unset ∷ below) go f h = ill
  any_reference (Int n ∷ below) go f h = ill
  any_reference (Long n ∷ below) go f h = ill
  any_reference (LongHigh ∷ below) go f h = ill
  any_reference (Null ∷ below) go f h = h None below tt f.1
  any_reference (Ref o ∷ below) go f h = h (Some o) below f.0 f.1

  pub any_value : (kind : Option Operand) (ops : List Value) (go : Value → List Value → A) → Fines heap ops → ((v : Value) (below : List Value) → Fine heap v → IsTyped kind v → Fines heap below → P (go v below)) → P (with_value kind refused ops go)
  any_value None ops go f h = ill
  any_value (Some operand.Int) ops go f h = any_int ops (λ n. go (Int n)) f (λ n below g. h (Int n) below tt (typed_int n) g)
  any_value (Some operand.Long) ops go f h = any_long ops (λ n. go (Long n)) f (λ n below g. h (Long n) below tt (typed_long n) g)
  any_value (Some operand.Reference) ops go f h = any_reference ops (λ r. go (referent_value r)) f (λ r below held g. h (referent_value r) below (fine_value heap r held) (typed_reference r) g)

-- the entries of a value
pub fine_entries : (heap : Objects) (v : Value) → Fine heap v → Fines heap (entries_of v)
fine_entries heap Unset f = (tt, tt)
fine_entries heap (Int n) f = (tt, tt)
fine_entries heap (Long n) f = (tt, (tt, tt))
fine_entries heap LongHigh f = (tt, tt)
fine_entries heap Null f = (tt, tt)
fine_entries heap (Ref o) f = (f, tt)

-- .. of one that is read
fine_zero : (heap : Objects) (kind : Option Operand) → Fine heap (or_zero kind Unset)
fine_zero heap None = tt
fine_zero heap (Some operand.Int) = tt
fine_zero heap (Some operand.Long) = tt
fine_zero heap (Some operand.Reference) = tt

pub fine_read : (heap : Objects) (kind : Option Operand) (v : Value) → Fine heap v → Fine heap (or_zero kind v)
fine_read heap kind Unset f = fine_zero heap kind
fine_read heap kind (Int n) f = tt
fine_read heap kind (Long n) f = tt
fine_read heap kind LongHigh f = tt
fine_read heap kind Null f = tt
fine_read heap kind (Ref o) f = f
