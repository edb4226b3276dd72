-- Where the elements of lists stand that are put together.
use Rattle.std.proofs.Common.{◌≡◌, ℕ, zero, suc, ◌+◌, ◌<◌, Bool, true, false, ◌==◌, List, [], ◌∷◌, ◌++◌, length, map, Option, None, refl, ◌∙◌, ap, subst, arith}
use mathlib.Core.Logic.{⊎_elim}
use Rattle.std.specs.Prelude.{All}
use Rattle.std.specs.List.{slice_index_or, position_from, list_any}
use Rattle.std.proofs.lemmas.Bool.{eqb-true, or_cases}
use Rattle.std.proofs.lemmas.List.Elements.{All-head, All-tail}
use Rattle.et_base.proofs.Options.{some-none}
use Rattle.et_program.specs.MembersOf.{numbered}
use Rattle.et_program.proofs.Standing.{first_or}

-- at a place of the list in front
pub at_map : {X Y : Type 0} (f : X → Y) (xs : List X) (ys : List Y) (k : ℕ) (d : X) (e : Y) → k < length xs → slice_index_or (map f xs ++ ys) k e ≡ f (slice_index_or xs k d)
at_map f [] ys k d e lt = absurd (omega arith)
at_map f (x ∷ xs) ys zero d e lt = refl
at_map f (x ∷ xs) ys (suc k) d e lt = at_map f xs ys k d e (omega arith)

pub at_mapped : {X Y : Type 0} (f : X → Y) (xs : List X) (k : ℕ) (d : X) (e : Y) → k < length xs → slice_index_or (map f xs) k e ≡ f (slice_index_or xs k d)
at_mapped f [] k d e lt = absurd (omega arith)
at_mapped f (x ∷ xs) zero d e lt = refl
at_mapped f (x ∷ xs) (suc k) d e lt = at_mapped f xs k d e (omega arith)

-- .. where each element was given its number
pub at_numbered : {X Y : Type 0} (f : ℕ → X → Y) (j : ℕ) (xs : List X) (ys : List Y) (k : ℕ) (d : X) (e : Y) → k < length xs → slice_index_or (numbered (λ i x. f i x ∷ []) j xs ++ ys) k e ≡ f (j + k) (slice_index_or xs k d)
at_numbered f j [] ys k d e lt = absurd (omega arith)
at_numbered f j (x ∷ xs) ys zero d e lt = ap (λ i. f i x) (let same : j ≡ j + 0 = omega arith in same)
at_numbered f j (x ∷ xs) ys (suc k) d e lt = at_numbered f (j + 1) xs ys k d e (omega arith) ∙ ap (λ i. f i (slice_index_or xs k d)) (let same : j + 1 + k ≡ j + suc k = omega arith in same)

-- .. behind the list in front
pub at_behind : {Y : Type 0} (xs ys : List Y) (e : Y) → slice_index_or (xs ++ ys) (length xs) e ≡ slice_index_or ys 0 e
at_behind [] ys e = refl
at_behind (x ∷ xs) ys e = at_behind xs ys e

-- THE FIRST PLACE at which a test holds

behind_step : (b c : Bool) (k : ℕ) (o r s : Option ℕ) → c ≡ b → first_or b k o ≡ None → (o ≡ None → r ≡ s) → first_or c k r ≡ s
behind_step true c k o r s e h rest = absurd (some-none k h)
behind_step false c k o r s e h rest = ap (λ d. first_or d k r) e ∙ rest h

-- .. behind a list where it holds of none

pub first_behind : {X Y : Type 0} (t : X → Bool) (u : Y → Bool) (f : X → Y) → ((x : X) → u (f x) ≡ t x) → (k : ℕ) (xs : List X) (ys : List Y) → position_from t k xs ≡ None → position_from u k (map f xs ++ ys) ≡ position_from u (k + length xs) ys
first_behind t u f same k [] ys h = ap (λ i. position_from u i ys) (let e : k ≡ k + 0 = omega arith in e)
first_behind t u f same k (x ∷ xs) ys h =
    behind_step (t x) (u (f x)) k (position_from t (k + 1) xs) (position_from u (k + 1) (map f xs ++ ys)) (position_from u (k + 1 + length xs) ys) (same x) h (first_behind t u f same (k + 1) xs ys)
    ∙ ap (λ i. position_from u i ys) (let n : k + 1 + length xs ≡ k + suc (length xs) = omega arith in n)

pub first_numbered_behind : {X Y : Type 0} (t : X → Bool) (u : Y → Bool) (f : ℕ → X → Y) → ((i : ℕ) (x : X) → u (f i x) ≡ t x) → (k : ℕ) (xs : List X) (ys : List Y) → position_from t k xs ≡ None → position_from u k (numbered (λ i x. f i x ∷ []) k xs ++ ys) ≡ position_from u (k + length xs) ys
first_numbered_behind t u f same k [] ys h = ap (λ i. position_from u i ys) (let e : k ≡ k + 0 = omega arith in e)
first_numbered_behind t u f same k (x ∷ xs) ys h =
    behind_step (t x) (u (f k x)) k (position_from t (k + 1) xs) (position_from u (k + 1) (numbered (λ i y. f i y ∷ []) (k + 1) xs ++ ys)) (position_from u (k + 1 + length xs) ys) (same k x) h (first_numbered_behind t u f same (k + 1) xs ys)
    ∙ ap (λ i. position_from u i ys) (let n : k + 1 + length xs ≡ k + suc (length xs) = omega arith in n)

pub none_first : {Y : Type 0} (u : Y → Bool) (k : ℕ) (ys : List Y) → All (λ y. u y ≡ false) ys → position_from u k ys ≡ None
none_first u k [] h = refl
none_first u k (y ∷ ys) h = ap (λ b. first_or b k (position_from u (k + 1) ys)) (All-head (λ z. u z ≡ false) y ys h) ∙ none_first u (k + 1) ys (All-tail (λ z. u z ≡ false) y ys h)

-- what holds of all holds of one that is among them
pub one_of : (P : ℕ → Type 0) (q : ℕ) (xs : List ℕ) → list_any (λ k. k == q) xs ≡ true → All P xs → P q
one_of P q [] h a = absurd (cc)
one_of P q (x ∷ xs) h a =
    ⊎_elim
    (λ e. subst P (eqb-true x q e) (All-head P x xs a))
    (λ r. one_of P q xs r (All-tail P x xs a))
    (or_cases (x == q) (list_any (λ k. k == q) xs) h)
