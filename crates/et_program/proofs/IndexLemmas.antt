-- The first place that passes, in a list that grows by one element after another.
use Rattle.std.proofs.Common.{◌≡◌, ℕ, ◌+◌, ◌<◌, suc, Bool, true, false, cond, List, [], ◌∷◌, ◌++◌, length, take, get_or, Option, None, Some, refl, sym, ◌∙◌, ap, subst, arith}
use Rattle.std.specs.List.{position_from}
use Rattle.std.specs.Option.{option_or}
use Rattle.std.proofs.lemmas.List.{take_more, length-take-le}

-- THE FIRST PLACE THAT PASSES

-- the first place in a list with one more element
pub position_push : {X : Type 0} (t : X → Bool) (xs : List X) (y : X) (i : ℕ) → position_from t i (xs ++ y ∷ []) ≡ option_or (position_from t i xs) (cond (t y) (Some (i + length xs)) None)
position_push t [] y i = let e : i + 0 ≡ i = omega arith in rw e refl
position_push {X} t (x ∷ xs) y i =
    let e : i + 1 + length xs ≡ i + suc (length xs) = omega arith in
    let r : position_from t (i + 1) (xs ++ y ∷ []) ≡ option_or (position_from t (i + 1) xs) (cond (t y) (Some (i + suc (length xs))) None) = subst (λ k. position_from t (i + 1) (xs ++ y ∷ []) ≡ option_or (position_from t (i + 1) xs) (cond (t y) (Some k) None)) e (position_push t xs y (i + 1)) in
    by (t x) r
  where
    by : (b : Bool) → position_from t (i + 1) (xs ++ y ∷ []) ≡ option_or (position_from t (i + 1) xs) (cond (t y) (Some (i + suc (length xs))) None) → cond b (Some i) (position_from t (i + 1) (xs ++ y ∷ [])) ≡ option_or (cond b (Some i) (position_from t (i + 1) xs)) (cond (t y) (Some (i + suc (length xs))) None)
    by true h = refl
    by false h = h

-- the first place among one more
pub position_more : {X : Type 0} (t : X → Bool) (xs : List X) (i : ℕ) (d : X) → i < length xs → position_from t 0 (take (i + 1) xs) ≡ option_or (position_from t 0 (take i xs)) (cond (t (get_or xs i d)) (Some i) None)
position_more {X} t xs i d lt =
    let n : length (take i xs) ≡ i = length-take-le i xs (omega arith) in
    ap (position_from t 0) (take_more xs i d lt) ∙ (position_push t (take i xs) (get_or xs i d) 0 ∙ ap (λ k. option_or (position_from t 0 (take i xs)) (cond (t (get_or xs i d)) (Some k) None)) (let e : 0 + length (take i xs) ≡ i = omega arith in e))

-- ONE MORE ELEMENT

-- the first place among one more, by what was put in
pub position_step : {X : Type 0} (t : X → Bool) (xs : List X) (i : ℕ) (x : X) (b : Bool) (old new : Option ℕ) → i < length xs → x ≡ get_or xs i x → b ≡ t x → old ≡ position_from t 0 (take i xs) → new ≡ option_or old (cond b (Some i) None) → new ≡ position_from t 0 (take (i + 1) xs)
position_step t xs i x b old new lt is passes before puts =
    puts
    ∙ (ap (λ o. option_or o (cond b (Some i) None)) before
    ∙ (ap (λ c. option_or (position_from t 0 (take i xs)) (cond c (Some i) None)) (passes ∙ ap t is)
    ∙ sym (position_more t xs i x lt)))
