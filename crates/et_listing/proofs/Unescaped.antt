-- The bytes that a word spells, one after the other.
use Rattle.std.proofs.Common.{◌≡◌, ℕ, ◌+◌, ◌*◌, ◌<◌, ◌≤◌, cond, List, [], ◌∷◌, length, get_or, drop, refl, sym, ap, ◌∙◌, arith, length-drop}
use Rattle.std.proofs.lemmas.Bool.{eq-eqb, ne_eqb}
use Rattle.std.proofs.lemmas.List.{drop-drop, get_or-drop, drop_all}
use Rattle.et_listing.specs.Words.{hex, unescaped}

escaped : (xs : List ℕ) → 3 ≤ length xs → get_or xs 0 0 ≡ 37 → unescaped xs ≡ (hex (get_or xs 1 0) * 16 + hex (get_or xs 2 0)) ∷ unescaped (drop 3 xs)
unfolding unescaped
escaped [] le e = absurd (omega arith)
escaped (c ∷ []) le e = absurd (omega arith)
escaped (c ∷ d ∷ []) le e = absurd (omega arith)
escaped (c ∷ d ∷ x ∷ rest) le e = ap (λ b. cond b ((hex d * 16 + hex x) ∷ unescaped rest) (c ∷ unescaped (d ∷ x ∷ rest))) (eq-eqb c 37 e)

plain : (xs : List ℕ) → 0 < length xs → (get_or xs 0 0 ≡ 37 → length xs < 3) → unescaped xs ≡ get_or xs 0 0 ∷ unescaped (drop 1 xs)
unfolding unescaped
plain [] lt h = absurd (omega arith)
plain (c ∷ []) lt h = refl
plain (c ∷ d ∷ []) lt h = refl
plain (c ∷ d ∷ x ∷ rest) lt h = ap (λ b. cond b ((hex d * 16 + hex x) ∷ unescaped rest) (c ∷ unescaped (d ∷ x ∷ rest))) (ne_eqb c 37 (λ e. absurd (omega (arith, h e))))

pub escaped_at : (xs : List ℕ) (i : ℕ) → i + 3 ≤ length xs → get_or xs i 0 ≡ 37 → unescaped (drop i xs) ≡ (hex (get_or xs (i + 1) 0) * 16 + hex (get_or xs (i + 2) 0)) ∷ unescaped (drop (i + 3) xs)
escaped_at xs i le e =
    let size = length-drop i xs in
    let a = get_or-drop i xs 1 0 in
    let b = get_or-drop i xs 2 0 in
    let at : get_or (drop i xs) 0 0 ≡ 37 = get_or-drop i xs 0 0 ∙ (ap (λ n. get_or xs n 0) (omega arith) ∙ e) in
    escaped (drop i xs) (omega arith) at ∙ (ap (λ n. (hex n * 16 + hex (get_or (drop i xs) 2 0)) ∷ unescaped (drop 3 (drop i xs))) a ∙ (ap (λ n. (hex (get_or xs (i + 1) 0) * 16 + hex n) ∷ unescaped (drop 3 (drop i xs))) b ∙ ap (λ ys. (hex (get_or xs (i + 1) 0) * 16 + hex (get_or xs (i + 2) 0)) ∷ unescaped ys) (drop-drop 3 i xs)))

pub plain_at : (xs : List ℕ) (i : ℕ) → i < length xs → (get_or xs i 0 ≡ 37 → length xs < i + 3) → unescaped (drop i xs) ≡ get_or xs i 0 ∷ unescaped (drop (i + 1) xs)
plain_at xs i lt h =
    let size = length-drop i xs in
    let here : get_or (drop i xs) 0 0 ≡ get_or xs i 0 = get_or-drop i xs 0 0 ∙ ap (λ n. get_or xs n 0) (omega arith) in
    plain (drop i xs) (omega arith) (λ e. omega (arith, h (sym here ∙ e))) ∙ (ap (λ n. n ∷ unescaped (drop 1 (drop i xs))) here ∙ ap (λ ys. get_or xs i 0 ∷ unescaped ys) (drop-drop 1 i xs))

pub unescaped_end : (xs : List ℕ) (i : ℕ) → length xs ≤ i → unescaped (drop i xs) ≡ []
unfolding unescaped
unescaped_end xs i le = ap unescaped (drop_all i xs le)
