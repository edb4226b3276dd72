-- Operands are taken from the top: below them there are no more than before.
use Rattle.std.proofs.Common.{ℕ, ◌≤◌, List, [], ◌∷◌, length, Some, None, arith}
use Rattle.std.specs.Prelude.{ℤ}
use Rattle.et_base.specs.declared.value.Value.{Value}
use Rattle.et_base.specs.declared.value.Value.TheVariants.{Unset, Int, Long, LongHigh, Null, Ref}
use Rattle.et_event.specs.Checks.{Reference, with_int, with_long, with_reference}

pub taken_int : {A : Type 0} (P : A → Type 0) (refused : A) (ops : List Value) (k : ℕ) (go : ℤ → List Value → A) → P refused → length ops ≤ k → ((n : ℤ) (below : List Value) → length below ≤ k → P (go n below)) → P (with_int refused ops go)
taken_int P refused [] k go r le h = r
taken_int P refused (Unset ∷ below) k go r le h = r
taken_int P refused (Int n ∷ below) k go r le h = h n below (omega arith)
taken_int P refused (Long n ∷ below) k go r le h = r
taken_int P refused (LongHigh ∷ below) k go r le h = r
taken_int P refused (Null ∷ below) k go r le h = r
taken_int P refused (Ref o ∷ below) k go r le h = r

taken_high : {A : Type 0} (P : A → Type 0) (refused : A) (ops : List Value) (k : ℕ) (go : ℤ → List Value → A) → P refused → length ops ≤ k → ((n : ℤ) (below : List Value) → length below ≤ k → P (go n below)) → P (with_long refused (LongHigh ∷ ops) go)
taken_high P refused [] k go r le h = r
taken_high P refused (Unset ∷ below) k go r le h = r
taken_high P refused (Int n ∷ below) k go r le h = r
taken_high P refused (Long n ∷ below) k go r le h = h n below (omega arith)
taken_high P refused (LongHigh ∷ below) k go r le h = r
taken_high P refused (Null ∷ below) k go r le h = r
taken_high P refused (Ref o ∷ below) k go r le h = r

pub taken_long : {A : Type 0} (P : A → Type 0) (refused : A) (ops : List Value) (k : ℕ) (go : ℤ → List Value → A) → P refused → length ops ≤ k → ((n : ℤ) (below : List Value) → length below ≤ k → P (go n below)) → P (with_long refused ops go)
taken_long P refused [] k go r le h = r
taken_long P refused (Unset ∷ below) k go r le h = r
taken_long P refused (Int n ∷ below) k go r le h = r
taken_long P refused (Long n ∷ below) k go r le h = r
taken_long P refused (LongHigh ∷ below) k go r le h = taken_high P refused below k go r (omega arith) h
taken_long P refused (Null ∷ below) k go r le h = r
taken_long P refused (Ref o ∷ below) k go r le h = r

pub taken_reference : {A : Type 0} (P : A → Type 0) (refused : A) (ops : List Value) (k : ℕ) (go : Reference → List Value → A) → P refused → length ops ≤ k → ((r : Reference) (below : List Value) → length below ≤ k → P (go r below)) → P (with_reference refused ops go)
taken_reference P refused [] k go r le h = r
taken_reference P refused (Unset ∷ below) k go r le h = r
taken_reference P refused (Int n ∷ below) k go r le h = r
taken_reference P refused (Long n ∷ below) k go r le h = r
taken_reference P refused (LongHigh ∷ below) k go r le h = r
taken_reference P refused (Null ∷ below) k go r le h = h None below (omega arith)
taken_reference P refused (Ref o ∷ below) k go r le h = h (Some o) below (omega arith)
