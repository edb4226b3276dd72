-- Times of a list of objects, one after the other.
use Rattle.std.proofs.Common.{◌≡◌, ℕ, ◌+◌, ◌<◌, ◌≤◌, List, [], ◌∷◌, ◌++◌, length, get_or, Contains, sym, ◌∙◌, ap, subst, arith}
use mathlib.Core.Logic.{⊎_elim}
use Rattle.std.proofs.lemmas.Bool.{cases_lt}
use Rattle.std.proofs.lemmas.List.{get_or_default, get_or_append_left, get_or_push}

-- what holds at each place of a list holds of each of its elements
pub each_at : (P : ℕ → Type 0) (xs : List ℕ) (n : ℕ) → length xs ≤ n → ((k : ℕ) → k < n → P (get_or xs k 0)) → (x : ℕ) → Contains xs x → P x
each_at P xs n all each x c = subst P (sym (get_or_default xs c.0 x 0 c.1) ∙ c.2) (each c.0 (omega (arith, c.1)))

-- TIMES

pub times_more : (held stamps times times' : List ℕ) (i o v : ℕ) → i < length held → o ≡ get_or held i 0 → v ≡ get_or stamps o 0 → times' ≡ times ++ v ∷ [] → length times ≡ i
    → ((k : ℕ) → k < i → get_or times k 0 ≡ get_or stamps (get_or held k 0) 0)
    → (k : ℕ) → k < i + 1 → get_or times' k 0 ≡ get_or stamps (get_or held k 0) 0
times_more held stamps times times' i o v lt is value push long before k less =
    ap (λ (ts : List ℕ). get_or ts k 0) push
    ∙ ⊎_elim
    (λ b. get_or_append_left times (v ∷ []) 0 k (omega arith) ∙ before k b)
    (λ g.
    let e : i ≡ k = omega arith in
    get_or_push times v 0 k (omega arith) ∙ (value ∙ ap (λ (z : ℕ). get_or stamps z 0) (is ∙ ap (λ (j : ℕ). get_or held j 0) e)))
    (cases_lt k i)
