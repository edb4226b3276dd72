-- What an option or a result holds, by cases.
use Rattle.std.proofs.Common.{◌≡◌, ◌≢◌, ℕ, Bool, true, false, Option, Some, None, IfSome, is_some, unwrap_or, Result, Ok, Err, refl, sym, ap}
use Rattle.std.specs.Prelude.{if◌then◌else◌, OnOk, OnErr}
use Rattle.std.specs.Option.{option_or}

pub is_none : {A : Type 0} (o : Option A) → is_some o ≡ false → o ≡ None
is_none None h = refl
is_none (Some x) h = absurd cc

pub is_some_of : {A : Type 0} (o : Option A) → is_some o ≡ true → (x : A) × (o ≡ Some x)
is_some_of None h = absurd cc
is_some_of (Some x) h = (x, refl)

pub some-none : {A : Type 0} (x : A) → Some x ≡ None → ⊥
some-none x e = cc

pub some_number : (o : Option ℕ) (n : ℕ) → unwrap_or o 0 ≡ n → n ≢ 0 → o ≡ Some n
some_number None n e ne = absurd (ne (sym e))
some_number (Some x) n e ne = ap (λ (k : ℕ). Some k) e

pub either_holds : (P : ℕ → Type 0) (a b : Option ℕ) → IfSome a P → IfSome b P → IfSome (option_or a b) P
either_holds P None b h i = i
either_holds P (Some x) b h i = h

pub none_by_test : (b : Bool) (v : ℕ) → (if b then Some v else None) ≡ None → b ≡ false
none_by_test true v e = cc
none_by_test false v e = refl

pub same_by_test : (b : Bool) (v k : ℕ) → Some k ≡ (if b then Some v else None) → k ≡ v
same_by_test true v k e = cc
same_by_test false v k e = cc

pub on_ok : {A E : Type 0} (P Q : Type 0) (r : Result A E) → (P → Q) → OnOk r P → OnOk r Q
on_ok P Q (Ok x) f p = f p
on_ok P Q (Err e) f p = tt

pub on_any_err : {T E : Type 0} {P : Type 0} (r : Result T E) → P → OnErr r P
on_any_err (Ok x) p = tt
on_any_err (Err e) p = p
