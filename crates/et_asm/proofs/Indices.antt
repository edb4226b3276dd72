-- The index of each entry, one after the other.
use Rattle.std.proofs.Common.{◌≡◌, ℕ, ◌+◌, ◌<◌, ◌≤◌, List, [], ◌∷◌, ◌++◌, length, get_or, take, length-append, refl, sym, ap, ◌∙◌, arith, inl, inr, below_more, Option, Some, None}
use Rattle.std.specs.Option.{option_map_or}
use Rattle.std.proofs.Math.Seq.{get_or-append_seam}
use Rattle.std.proofs.lemmas.List.{get_or_append_left, take_all}
use Rattle.std.proofs.lemmas.List.Sums.{sum_by_more}
use Rattle.et_listing.specs.declared.entry.Entry.{Entry}
use Rattle.et_asm.specs.Pool.{width, index_behind}

pub behind_more : (xs : List Entry) (i : ℕ) (x : Entry) (next next' : ℕ) → i < length xs → x ≡ get_or xs i x → next' ≡ next + width x → next ≡ index_behind (take i xs) → next' ≡ index_behind (take (i + 1) xs)
behind_more xs i x next next' lt e step before =
    let sum = sum_by_more width xs i x lt in
    let same : width x ≡ width (get_or xs i x) = ap width e in
    omega (arith, sum, same)

pub indices_more : (xs : List Entry) (i : ℕ) (found found' : List ℕ) (next : ℕ) → found' ≡ found ++ next ∷ [] → length found ≡ i → next ≡ index_behind (take i xs)
    → ((k : ℕ) → k < i → get_or found k 0 ≡ index_behind (take k xs)) → (k : ℕ) → k < i + 1 → get_or found' k 0 ≡ index_behind (take k xs)
indices_more xs i found found' next put size here before = below_more _ _
    (λ k lt. ap (λ ys. get_or ys k 0) put ∙ (get_or_append_left found (next ∷ []) 0 k (omega arith) ∙ before k lt))
    (ap (λ ys. get_or ys i 0) put ∙ (ap (λ n. get_or (found ++ next ∷ []) n 0) (sym size) ∙ (get_or-append_seam found next [] 0 ∙ here)))

pub behind_all : (xs : List Entry) (i next : ℕ) → length xs ≤ i → next ≡ index_behind (take i xs) → next ≡ index_behind xs
behind_all xs i next le before = before ∙ ap index_behind (take_all i xs le)

pub counted_more : (i : ℕ) (found found' : List ℕ) (next : ℕ) → found' ≡ found ++ next ∷ [] → length found ≡ i → length found' ≡ i + 1
counted_more i found found' next put size = omega (arith, ap length put, length-append found (next ∷ []))
