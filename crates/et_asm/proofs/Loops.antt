-- What loops append.
use Rattle.std.proofs.Common.{◌≡◌, ℕ, ◌+◌, ◌<◌, ◌≤◌, List, [], ◌∷◌, ◌++◌, length, get_or, take, drop, refl, sym, ap, ◌∙◌, append_assoc, append-nil, Result, Ok, Err}
use Rattle.std.specs.Prelude.{OnOk, IfOk}
use Rattle.std.specs.List.{flat_map}
use Rattle.std.proofs.lemmas.List.{take_all, flat_map_more}
use Rattle.et_asm.proofs.Taken.{taken, left, left_more, left_none}

-- what follows from the answer of the last call
pub on_ok : {T E : Type 0} {P Q : Type 0} → (P → Q) → (r : Result T E) → OnOk r P → OnOk r Q
on_ok f (Ok x) h = f h
on_ok f (Err e) h = h

pub if_ok : {T E : Type 0} {P Q : T → Type 0} → ((x : T) → P x → Q x) → (r : Result T E) → IfOk r P → IfOk r Q
if_ok f (Ok x) h = f x h
if_ok f (Err e) h = h

-- BYTES FOR EACH ELEMENT

pub put_more : {X : Type 0} (f : X → List ℕ) (xs : List X) (i : ℕ) (x : X) (out out' base : List ℕ) → i < length xs → x ≡ get_or xs i x → out' ≡ out ++ f x → out ≡ base ++ flat_map f (take i xs) → out' ≡ base ++ flat_map f (take (i + 1) xs)
put_more {X} f xs i x out out' base lt e step before =
    step ∙ (ap (λ o. o ++ f x) before ∙ (flat_map_more f base (take i xs) x ∙ ap (λ (ys : List X). base ++ flat_map f ys) (sym (taken xs i x lt e))))

pub put_all : {X : Type 0} (f : X → List ℕ) (xs : List X) (i : ℕ) (out base : List ℕ) → length xs ≤ i → out ≡ base ++ flat_map f (take i xs) → out ≡ base ++ flat_map f xs
put_all {X} f xs i out base le before = before ∙ ap (λ (ys : List X). base ++ flat_map f ys) (take_all i xs le)

-- one after the other
pub chain : (o0 o1 o2 a b : List ℕ) → o1 ≡ o0 ++ a → o2 ≡ o1 ++ b → o2 ≡ o0 ++ (a ++ b)
chain o0 o1 o2 a b first second = second ∙ (ap (λ o. o ++ b) first ∙ append_assoc o0 a b)

-- BYTES FOR EACH ELEMENT BY THOSE BEFORE AND BEHIND IT

module _ {X : Type 0} (give : List X → X → List X → List ℕ) where
  pub along_more : (xs : List X) (i : ℕ) (x : X) (out out' whole : List ℕ) → i < length xs → x ≡ get_or xs i x
      → out' ≡ out ++ give (take i xs) x (drop (i + 1) xs) → out ++ left give xs i ≡ whole → out' ++ left give xs (i + 1) ≡ whole
  along_more xs i x out out' whole lt e step before =
      ap (λ o. o ++ left give xs (i + 1)) step
      ∙ (append_assoc out (give (take i xs) x (drop (i + 1) xs)) (left give xs (i + 1))
      ∙ (ap (λ ys. out ++ ys) (sym (left_more give xs i x lt e)) ∙ before))

  pub along_end : (xs : List X) (i : ℕ) (out whole : List ℕ) → length xs ≤ i → out ++ left give xs i ≡ whole → out ≡ whole
  along_end xs i out whole le before = sym (append-nil out) ∙ (ap (λ ys. out ++ ys) (sym (left_none give xs i le)) ∙ before)
