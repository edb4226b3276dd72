-- A loop over a list, as what is left of it.
use Rattle.std.proofs.Common.{◌≡◌, ℕ, ◌+◌, ◌-◌, ◌<◌, ◌≤◌, List, [], ◌∷◌, ◌++◌, length, get_or, take, drop, sym, ap, ◌∙◌, arith, length-drop}
use Rattle.std.proofs.lemmas.List.{take_all, take_more, at_drop_more, at_drop_all}
use Rattle.et_asm.specs.Along.{along_from}

pub taken : {X : Type 0} (xs : List X) (i : ℕ) (x : X) → i < length xs → x ≡ get_or xs i x → take (i + 1) xs ≡ take i xs ++ x ∷ []
taken {X} xs i x lt e = take_more xs i x lt ∙ ap (λ (y : X). take i xs ++ y ∷ []) (sym e)

-- what is behind a place
pub rest_is : {X : Type 0} (xs : List X) (i : ℕ) → take (length xs - (i + 1)) (drop (i + 1) xs) ≡ drop (i + 1) xs
rest_is {X} xs i = take_all (length xs - (i + 1)) (drop (i + 1) xs) (omega (arith, length-drop (i + 1) xs))

module _ {X Y : Type 0} (give : List X → X → List X → List Y) where
  -- what the items from a place on give
  abbrev pub left : List X → ℕ → List Y
  left xs i = along_from give (take i xs) (drop i xs)

  pub left_more : (xs : List X) (i : ℕ) (x : X) → i < length xs → x ≡ get_or xs i x → left xs i ≡ give (take i xs) x (drop (i + 1) xs) ++ left xs (i + 1)
  unfolding along_from
  left_more xs i x lt e =
      at_drop_more (along_from give (take i xs)) xs i x lt
      ∙ (ap (λ y. give (take i xs) y (drop (i + 1) xs) ++ along_from give (take i xs ++ y ∷ []) (drop (i + 1) xs)) (sym e)
      ∙ ap (λ ys. give (take i xs) x (drop (i + 1) xs) ++ along_from give ys (drop (i + 1) xs)) (sym (taken xs i x lt e)))

  pub left_none : (xs : List X) (i : ℕ) → length xs ≤ i → left xs i ≡ []
  unfolding along_from
  left_none xs i le = at_drop_all (along_from give (take i xs)) xs i le
