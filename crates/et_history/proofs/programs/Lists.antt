-- What holds of each element of lists that are put together.
use Rattle.std.proofs.Common.{◌≡◌, ℕ, zero, suc, ◌+◌, ◌<◌, ◌==◌, Bool, true, false, cond, List, [], ◌∷◌, ◌++◌, length, reverse, refl, subst, arith, Contains}
use Rattle.std.specs.Prelude.{All, if◌then◌else◌}
use Rattle.std.specs.List.{slice_index_or, list_any, list_all, flat_map}
use Rattle.std.proofs.lemmas.List.Elements.{All-nil, All-cons, All-head, All-tail, All-append, All-push, All-contains, All-contains_itself}
use Rattle.std.proofs.lemmas.List.Sorted.{All-permutation, IsPermutation-reverse}
use Rattle.std.proofs.lemmas.List.{reverse-reverse}
use Rattle.std.proofs.lemmas.Bool.{and_parts}
use Rattle.et_program.specs.Slots.{places_from}
use Rattle.et_hierarchy.specs.Ancestry.{class_added, added_all}
use Rattle.et_program.specs.MembersOf.{numbered}

pub if_true : (b : Bool) (n m : ℕ) → b ≡ true → (if b then n else m) ≡ n
if_true true n m e = refl
if_true false n m e = cc

module _ (P : ℕ → Type 0) where
  either : (b : Bool) (xs ys : List ℕ) → All P xs → All P ys → All P (cond b xs ys)
  either true xs ys h g = h
  either false xs ys h g = g

  pub all_added : (seen xs : List ℕ) → All P seen → All P xs → All P (added_all seen xs)
  all_added seen [] h g = h
  all_added seen (x ∷ xs) h g =
      all_added (class_added seen x) xs (either (list_any (λ y. x == y) seen) seen (seen ++ x ∷ []) h (All-push P seen x h (All-head P x xs g))) (All-tail P x xs g)

  pub all_flat : (f : ℕ → List ℕ) (xs : List ℕ) → All (λ i. All P (f i)) xs → All P (flat_map f xs)
  all_flat f [] h = All-nil P
  all_flat f (x ∷ xs) h = All-append P (f x) (flat_map f xs) (All-head (λ i. All P (f i)) x xs h) (all_flat f xs (All-tail (λ i. All P (f i)) x xs h))

-- element i of a list has number k + i
pub all_numbered : {X Y : Type 0} (P : Y → Type 0) (f : ℕ → X → List Y) (k : ℕ) (xs : List X) → ((i : ℕ) (x : X) → i < length xs → slice_index_or xs i x ≡ x → All P (f (k + i) x)) → All P (numbered f k xs)
all_numbered P f k [] h = All-nil P
all_numbered P f k (x ∷ xs) h =
    All-append P (f k x) (numbered f (k + 1) xs)
    (subst (λ (j : ℕ). All P (f j x)) (let e : k + 0 ≡ k = omega arith in e) (h 0 x (omega arith) refl))
    (all_numbered P f (k + 1) xs (λ i y lt is. subst (λ (j : ℕ). All P (f j y)) (let e : k + suc i ≡ k + 1 + i = omega arith in e) (h (suc i) y (omega arith) is)))

-- the place of an element that passes a test, where the list starts at place n
pub all_places : {X : Type 0} (P : ℕ → Type 0) (t : X → Bool) (n : ℕ) (xs : List X) → ((i : ℕ) (x : X) → i < length xs → slice_index_or xs i x ≡ x → t x ≡ true → P (n + i)) → All P (places_from t n xs)
all_places P t n [] h = All-nil P
all_places {X} P t n (x ∷ xs) h = by (t x) refl (all_places P t (n + 1) xs (λ i y lt is e. subst P (let s : n + suc i ≡ n + 1 + i = omega arith in s) (h (suc i) y (omega arith) is e)))
  where
    by : (b : Bool) → t x ≡ b → All P (places_from t (n + 1) xs) → All P (cond b (n ∷ places_from t (n + 1) xs) (places_from t (n + 1) xs))
    by true e r = All-cons P n (places_from t (n + 1) xs) (subst P (let s : n + 0 ≡ n = omega arith in s) (h 0 x (omega arith) refl e)) r
    by false e r = r

-- places ascend
abbrev pub Ascends : List ℕ → Type 0
Ascends xs = (i j : ℕ) → i < j → j < length xs → slice_index_or xs i 0 < slice_index_or xs j 0

ascends_behind : (k : ℕ) (ys : List ℕ) → All (λ m. k < m) ys → Ascends ys → Ascends (k ∷ ys)
ascends_behind k ys low h zero zero lt l = absurd (omega arith)
ascends_behind k ys low h zero (suc j) lt l = low j 0 (omega arith)
ascends_behind k ys low h (suc i) zero lt l = absurd (omega arith)
ascends_behind k ys low h (suc i) (suc j) lt l = h i j (omega arith) (omega arith)

pub places_ascend : {X : Type 0} (t : X → Bool) (n : ℕ) (xs : List X) → Ascends (places_from t n xs)
places_ascend t n [] = λ i j lt l. absurd (omega arith)
places_ascend {X} t n (x ∷ xs) = by (t x) (all_places (λ m. n < m) t (n + 1) xs (λ i y lt is e. omega arith)) (places_ascend t (n + 1) xs)
  where
    by : (b : Bool) → All (λ m. n < m) (places_from t (n + 1) xs) → Ascends (places_from t (n + 1) xs) → Ascends (cond b (n ∷ places_from t (n + 1) xs) (places_from t (n + 1) xs))
    by true low h = ascends_behind n (places_from t (n + 1) xs) low h
    by false low h = h

-- WHAT LISTS HAVE that are put together

pub reverse_all : (P : ℕ → Type 0) (xs : List ℕ) → All P xs → All P (reverse xs)
reverse_all P xs h = All-permutation P xs (reverse xs) (IsPermutation-reverse xs) h

pub reverse_has : (xs : List ℕ) (x : ℕ) → Contains xs x → Contains (reverse xs) x
reverse_has xs x h =
    let each : All (Contains (reverse xs)) (reverse (reverse xs)) = reverse_all (Contains (reverse xs)) (reverse xs) (All-contains_itself (reverse xs)) in
    All-contains (Contains (reverse xs)) xs x (subst (λ (ys : List ℕ). All (Contains (reverse xs)) ys) (reverse-reverse xs) each) h

-- each element passes a test that all of them pass
pub all_pass : {X : Type 0} (t : X → Bool) (xs : List X) → list_all t xs ≡ true → All (λ x. t x ≡ true) xs
all_pass t [] h = All-nil (λ x. t x ≡ true)
all_pass t (x ∷ xs) h =
    let parts = and_parts (t x) (list_all t xs) h in
    All-cons (λ y. t y ≡ true) x xs parts.0 (all_pass t xs parts.1)
