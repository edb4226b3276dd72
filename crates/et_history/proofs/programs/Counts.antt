-- The fields of a list with their slots, and how many stand before one.
use Rattle.std.proofs.Common.{◌≡◌, ℕ, zero, suc, ◌+◌, ◌<◌, ◌≤◌, Bool, true, false, cond, List, [], ◌∷◌, ◌++◌, length, take, get_or, refl, sym, ◌∙◌, ap, subst, arith, append_assoc, append-nil}
use Rattle.std.specs.Prelude.{All, count_by, if◌then◌else◌}
use Rattle.std.specs.List.{slice_index_or}
use Rattle.std.proofs.lemmas.List.{take-take}
use Rattle.std.proofs.lemmas.List.Sums.{sum_by-cons, sum_by-take-le, count_by_more_yes}
use Rattle.std.proofs.lemmas.List.Elements.{All-head, All-tail}
use Rattle.et_program.specs.declared.info.FieldInfo.{FieldInfo}
use Rattle.et_program.specs.Entries.{no_field}
use Rattle.et_program.specs.Slots.{slot_of_field, placed_behind, places_from}

abbrev one_if : Bool → ℕ
one_if b = cond b 1 0

pub count_none : {X : Type 0} (t : X → Bool) (xs : List X) → All (λ x. t x ≡ false) xs → count_by t xs ≡ 0
count_none t [] h = refl
count_none t (x ∷ xs) h =
    let first : one_if (t x) ≡ 0 = ap one_if (All-head (λ y. t y ≡ false) x xs h) in
    let rest : count_by t xs ≡ 0 = count_none t xs (All-tail (λ y. t y ≡ false) x xs h) in
    let all : count_by t (x ∷ xs) ≡ one_if (t x) + count_by t xs = sum_by-cons (λ y. one_if (t y)) x xs in
    all ∙ (ap (λ (n : ℕ). n + count_by t xs) first ∙ (let none : 0 + count_by t xs ≡ 0 = omega arith in none))

-- one that passes a test counts
pub count_within : {X : Type 0} (t : X → Bool) (xs : List X) (i : ℕ) (d : X) → i < length xs → t (get_or xs i d) ≡ true → count_by t (take i xs) + 1 ≤ count_by t xs
count_within t xs i d lt e =
    let more : count_by t (take (i + 1) xs) ≡ count_by t (take i xs) + 1 = count_by_more_yes t xs i d lt e in
    let part : count_by t (take (i + 1) xs) ≤ count_by t xs = sum_by-take-le (λ x. cond (t x) 1 0) xs (i + 1) in
    omega arith

pub count_before : {X : Type 0} (t : X → Bool) (xs : List X) (i j : ℕ) (d : X) → i < length xs → t (get_or xs i d) ≡ true → i < j → count_by t (take i xs) + 1 ≤ count_by t (take j xs)
count_before t xs i j d lt e less =
    let more : count_by t (take (i + 1) xs) ≡ count_by t (take i xs) + 1 = count_by_more_yes t xs i d lt e in
    let le : i + 1 ≤ j = omega arith in
    let same : take (i + 1) (take j xs) ≡ take (i + 1) xs = take-take (i + 1) j xs le in
    let part : count_by t (take (i + 1) (take j xs)) ≤ count_by t (take j xs) = sum_by-take-le (λ x. cond (t x) 1 0) (take j xs) (i + 1) in
    let now : count_by t (take (i + 1) xs) ≤ count_by t (take j xs) = subst (λ (ys : List _). count_by t ys ≤ count_by t (take j xs)) same part in
    omega arith

-- a field with its slot
pub placed_at : (base : ℕ → ℕ) (before fs : List FieldInfo) (f : ℕ) → f < length fs
    → slice_index_or (placed_behind base before fs) f no_field ≡ record (slice_index_or fs f no_field) { slot = slot_of_field base (before ++ take f fs) (slice_index_or fs f no_field) }
placed_at base before [] f lt = absurd (omega arith)
placed_at base before (x ∷ xs) zero lt = ap (λ (l : List FieldInfo). record x { slot = slot_of_field base l x }) (sym (append-nil before))
placed_at base before (x ∷ xs) (suc f) lt =
    placed_at base (before ++ x ∷ []) xs f (omega arith)
    ∙ ap (λ (l : List FieldInfo). record (slice_index_or xs f no_field) { slot = slot_of_field base l (slice_index_or xs f no_field) }) (append_assoc before (x ∷ []) (take f xs))

-- PLACES

-- the place of an element stands where as many stand before it
pub record StandsIn (places : List ℕ) (i place : ℕ) : Type 0 where
  pub within : i < length places
  pub is : slice_index_or places i 0 ≡ place

stands_by : (b : Bool) (k : ℕ) (rest : List ℕ) (i j place : ℕ) → j ≡ cond b 1 0 + i → StandsIn rest i place → StandsIn (if b then k ∷ rest else rest) j place
stands_by true k rest i j place e h = subst (λ (n : ℕ). StandsIn (k ∷ rest) n place) (let same : suc i ≡ j = omega arith in same) (record { within = omega (arith, h.within); is = h.is })
stands_by false k rest i j place e h = subst (λ (n : ℕ). StandsIn rest n place) (let same : i ≡ j = omega arith in same) h

stands_first : (b : Bool) (k : ℕ) (rest : List ℕ) → b ≡ true → StandsIn (if b then k ∷ rest else rest) 0 k
stands_first true k rest e = record { within = omega arith; is = refl }
stands_first false k rest e = absurd (cc)

pub places_at : {X : Type 0} (t : X → Bool) (k : ℕ) (xs : List X) (f : ℕ) (d : X) → f < length xs → t (slice_index_or xs f d) ≡ true → StandsIn (places_from t k xs) (count_by t (take f xs)) (k + f)
places_at t k [] f d lt e = absurd (omega arith)
places_at t k (x ∷ xs) zero d lt e = subst (λ (n : ℕ). StandsIn (places_from t k (x ∷ xs)) 0 n) (let same : k ≡ k + 0 = omega arith in same) (stands_first (t x) k (places_from t (k + 1) xs) e)
places_at t k (x ∷ xs) (suc f) d lt e =
    let rest : StandsIn (places_from t (k + 1) xs) (count_by t (take f xs)) (k + 1 + f) = places_at t (k + 1) xs f d (omega arith) e in
    let all : count_by t (x ∷ take f xs) ≡ cond (t x) 1 0 + count_by t (take f xs) = sum_by-cons (λ y. cond (t y) 1 0) x (take f xs) in
    subst (λ (n : ℕ). StandsIn (places_from t k (x ∷ xs)) (count_by t (take (suc f) (x ∷ xs))) n) (let same : k + 1 + f ≡ k + suc f = omega arith in same)
    (stands_by (t x) k (places_from t (k + 1) xs) (count_by t (take f xs)) (count_by t (take (suc f) (x ∷ xs))) (k + 1 + f) all rest)
