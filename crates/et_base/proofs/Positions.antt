-- The first place of a list at which a test holds.
use Rattle.std.proofs.Common.{◌≡◌, ℕ, suc, ◌+◌, ◌<◌, Bool, true, false, cond, List, [], ◌∷◌, length, get_or, Option, Some, None, IfSome, refl, arith}
use Rattle.std.specs.List.{position_from}

-- j is the number of such a place, where the list begins at number i
pub record Passes {X : Type 0} (t : X → Bool) (d : X) (i : ℕ) (xs : List X) (j : ℕ) : Type 0 where
  pub place : ℕ
  pub is : j ≡ i + place
  pub within : place < length xs
  pub passes : t (get_or xs place d) ≡ true

pub shifted : {X : Type 0} (t : X → Bool) (d : X) (i : ℕ) (x : X) (xs : List X) (o : Option ℕ) → IfSome o (Passes t d (i + 1) xs) → IfSome o (Passes t d i (x ∷ xs))
shifted t d i x xs None h = tt
shifted t d i x xs (Some j) h = let n : ℕ = h.place in record { place = suc n; is = omega (arith, h.is); within = omega (arith, h.within); passes = h.passes }

pub by_test : {X : Type 0} (t : X → Bool) (d : X) (i : ℕ) (x : X) (xs : List X) (b : Bool) → t x ≡ b → IfSome (position_from t (i + 1) xs) (Passes t d (i + 1) xs)
    → IfSome (cond b (Some i) (position_from t (i + 1) xs)) (Passes t d i (x ∷ xs))
by_test t d i x xs true e h = record { place = 0; is = omega arith; within = omega arith; passes = e }
by_test t d i x xs false e h = shifted t d i x xs (position_from t (i + 1) xs) h

pub position_passes : {X : Type 0} (t : X → Bool) (d : X) (i : ℕ) (xs : List X) → IfSome (position_from t i xs) (Passes t d i xs)
position_passes t d i [] = tt
position_passes t d i (x ∷ xs) = by_test t d i x xs (t x) refl (position_passes t d (i + 1) xs)
