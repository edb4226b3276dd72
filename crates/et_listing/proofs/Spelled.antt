-- Spellings of bytes, one after the other.
use Rattle.std.proofs.Common.{◌≡◌, ℕ, ◌+◌, ◌<◌, ◌≤◌, Bool, true, false, ◌&&◌, ◌||◌, cond, not, eqb, ltb, ◌⊎◌, List, [], ◌∷◌, length, get_or, drop, refl, sym, ap, ◌∙◌, arith, inl, inr, length-drop}
use Rattle.std.proofs.lemmas.Bool.{ltb-false}
use Rattle.std.proofs.lemmas.List.{drop-drop, drop_all}
use Rattle.et_listing.specs.Words.{is_spelled_out, is_escape, spelled_len, is_spelling}

and_true : (b : Bool) → b ≡ (b && true)
and_true true = refl
and_true false = refl

-- no spelling at the front
front_none : (xs : List ℕ) → 0 < length xs → spelled_len xs ≡ 0 → is_spelling xs ≡ false
unfolding is_spelling
front_none [] lt e = absurd (omega arith)
front_none (c ∷ []) lt e = ap (λ n. not (eqb n 0)) e
front_none (c ∷ d ∷ []) lt e = ap (λ n. not (eqb n 0) && is_spelling (d ∷ [])) e
front_none (c ∷ d ∷ e ∷ rest) lt h = ap (λ n. cond (eqb n 3) (is_spelling rest) (not (eqb n 0) && is_spelling (d ∷ e ∷ rest))) h

front_one : (xs : List ℕ) → 0 < length xs → spelled_len xs ≡ 1 → is_spelling xs ≡ is_spelling (drop 1 xs)
unfolding is_spelling
front_one [] lt e = absurd (omega arith)
front_one (c ∷ []) lt e = ap (λ n. not (eqb n 0)) e
front_one (c ∷ d ∷ []) lt e = ap (λ n. not (eqb n 0) && is_spelling (d ∷ [])) e
front_one (c ∷ d ∷ e ∷ rest) lt h = ap (λ n. cond (eqb n 3) (is_spelling rest) (not (eqb n 0) && is_spelling (d ∷ e ∷ rest))) h

front_three : (xs : List ℕ) → 3 ≤ length xs → spelled_len xs ≡ 3 → is_spelling xs ≡ is_spelling (drop 3 xs)
unfolding is_spelling
front_three [] lt e = absurd (omega arith)
front_three (c ∷ []) lt e = absurd (omega arith)
front_three (c ∷ d ∷ []) lt e = absurd (omega arith)
front_three (c ∷ d ∷ e ∷ rest) lt h = ap (λ n. cond (eqb n 3) (is_spelling rest) (not (eqb n 0) && is_spelling (d ∷ e ∷ rest))) h

abbrev Ways : ℕ → ℕ → Type 0
Ways size n = (n ≡ 0) ⊎ ((n ≡ 1) ⊎ ((n ≡ 3) × (3 ≤ size)))

ways : (size : ℕ) (a b c d : Bool) → (c ≡ false → 3 ≤ size) → Ways size (cond a (cond b 0 1) (cond (c || d) 0 3))
ways size true true c d h = inl refl
ways size true false c d h = inr (inl refl)
ways size false b true d h = inl refl
ways size false b false true h = inl refl
ways size false b false false h = inr (inr (refl, h refl))

three_ways : (xs : List ℕ) → Ways (length xs) (spelled_len xs)
three_ways xs = ways (length xs) (not (eqb (get_or xs 0 0) 37)) (is_spelled_out (get_or xs 0 0)) (ltb (length xs) 3) (not (is_escape (get_or xs 1 0) (get_or xs 2 0))) (λ e. ltb-false _ _ e)

front_step : (xs : List ℕ) → 0 < length xs → (spelled_len xs ≡ 0 → ⊥) → (spelled_len xs ≤ length xs) × (0 < spelled_len xs) × (is_spelling xs ≡ is_spelling (drop (spelled_len xs) xs))
front_step xs lt some = elim (three_ways xs) [
  | inl none ↦ absurd (some none)
  | inr (inl one) ↦ (omega (arith, one), omega (arith, one), front_one xs lt one ∙ ap (λ n. is_spelling (drop n xs)) (sym one))
  | inr (inr three) ↦ (omega (arith, three.0, three.1), omega (arith, three.0), front_three xs three.1 three.0 ∙ ap (λ n. is_spelling (drop n xs)) (sym three.0))
]

pub spelled_none : (xs : List ℕ) (i n : ℕ) (whole : Bool) → i < length xs → n ≡ spelled_len (drop i xs) → n ≡ 0 → is_spelling (drop i xs) ≡ whole → false ≡ whole
spelled_none xs i n whole lt e none same =
    let size = length-drop i xs in
    sym (front_none (drop i xs) (omega arith) (sym e ∙ none)) ∙ same

pub spelled_step : (xs : List ℕ) (i n : ℕ) (whole : Bool) → i < length xs → n ≡ spelled_len (drop i xs) → (n ≡ 0 → ⊥) → is_spelling (drop i xs) ≡ whole → (i + n ≤ length xs) × (0 < n) × (is_spelling (drop (i + n) xs) ≡ whole)
spelled_step xs i n whole lt e some same =
    let size = length-drop i xs in
    let step = front_step (drop i xs) (omega arith) (λ z. some (e ∙ z)) in
    (omega (arith, step.0, e), omega (arith, step.1, e), ap is_spelling (sym (drop-drop n i xs)) ∙ (ap (λ m. is_spelling (drop m (drop i xs))) e ∙ (sym step.2 ∙ same)))

pub spelled_end : (xs : List ℕ) (i : ℕ) (whole : Bool) → length xs ≤ i → is_spelling (drop i xs) ≡ whole → true ≡ whole
unfolding is_spelling
spelled_end xs i whole le same = sym (ap is_spelling (drop_all i xs le)) ∙ same
