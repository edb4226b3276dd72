-- Lemmas on the table that has the number of what was mentioned.
use Rattle.std.proofs.Common.{◌≡◌, ◌≢◌, ℕ, ◌+◌, ◌<◌, ◌==◌, eqb, Bool, true, false, ◌||◌, if◌then◌else◌, List, [], ◌∷◌, ◌++◌, Option, Some, None, length, get_or, set, refl, sym, ◌∙◌, ap, ◌⊎◌, inl, inr}
use Rattle.std.specs.List.{list_any, position_or_len}
use Rattle.std.proofs.lemmas.Bool.{false≢true}
use Rattle.std.proofs.lemmas.Bool.Decides.{eqb_tells}
use Rattle.std.proofs.lemmas.List.{get_or-set_same, get_or-set_other}
use Rattle.std.proofs.lemmas.List.Folds.{list_any-append}
use Rattle.et_loop.specs.Naming.{number_if_in, AreNumbersOf}
use Rattle.et_loop.proofs.Mentioning.{place_new, place_none}

kept_at : (p : ℕ → Bool) (x y : ℕ) (ys : List ℕ) (b : Bool) → p y ≡ b → (b || list_any p ys) ≡ true → (list_any p ys ≡ true → position_or_len p (ys ++ x ∷ []) ≡ position_or_len p ys) → position_or_len p (y ∷ ys ++ x ∷ []) ≡ position_or_len p (y ∷ ys)
kept_at p x y ys true h e rest = rw h refl
kept_at p x y ys false h e rest = rw h (ap (λ n. 1 + n) (rest e))

-- the place of one that is there stays where a number is put at the end
pub place_kept : (p : ℕ → Bool) (x : ℕ) (seen : List ℕ) → list_any p seen ≡ true → position_or_len p (seen ++ x ∷ []) ≡ position_or_len p seen
place_kept p x [] e = absurd (false≢true e)
place_kept p x (y ∷ ys) e = kept_at p x y ys (p y) refl e (place_kept p x ys)

or_false : (a b : Bool) → b ≡ false → (a || (b || false)) ≡ a
or_false true b h = refl
or_false false b h = rw h refl

or_true : (a b : Bool) → b ≡ true → (a || (b || false)) ≡ true
or_true true b h = refl
or_true false b h = rw h refl

told_same : (a b : Bool) (k n : ℕ) → a ≡ b → (b ≡ true → k ≡ n) → (if a then Some (k + 1) else None) ≡ (if b then Some (n + 1) else None)
told_same a true k n e h = rw (e, h refl) refl
told_same a false k n e h = rw e refl

told_some : (a : Bool) (k n : ℕ) → a ≡ true → k ≡ n → (if a then Some (k + 1) else None) ≡ Some (n + 1)
told_some a k n e h = rw (e, h) refl

-- .. and so does its number
number_kept : (seen : List ℕ) (x id : ℕ) → (x == id) ≡ false → number_if_in (seen ++ id ∷ []) x ≡ number_if_in seen x
number_kept seen x id other =
    let p = λ (y : ℕ). x == y in
    told_same (list_any p (seen ++ id ∷ [])) (list_any p seen) (position_or_len p (seen ++ id ∷ [])) (position_or_len p seen)
    (list_any-append p seen (id ∷ []) ∙ or_false (list_any p seen) (x == id) other) (place_kept p id seen)

-- what is put at the end gets the next number
number_next : (seen : List ℕ) (x id : ℕ) → (x == id) ≡ true → list_any (λ y. x == y) seen ≡ false → number_if_in (seen ++ id ∷ []) x ≡ Some (length seen + 1)
number_next seen x id same new =
    let p = λ (y : ℕ). x == y in
    told_some (list_any p (seen ++ id ∷ [])) (position_or_len p (seen ++ id ∷ [])) (length seen)
    (list_any-append p seen (id ∷ []) ∙ or_true (list_any p seen) (x == id) same) (place_new p id seen same ∙ place_none p seen new)

more_cases : (seen : List ℕ) (old grown : List (Option ℕ)) (id n x : ℕ) → AreNumbersOf seen old → ((o : ℕ) → get_or grown o None ≡ get_or old o None) → id < length grown → list_any (λ y. id == y) seen ≡ false → n ≡ length seen + 1
    → ((eqb x id ≡ true) × (x ≡ id)) ⊎ ((eqb x id ≡ false) × (x ≢ id)) → get_or (set grown id (Some n)) x None ≡ number_if_in (seen ++ id ∷ []) x
more_cases seen old grown id n x are kept within new next (inl h) =
    rw (h.1, get_or-set_same grown id (Some n) None within, next) (sym (number_next seen id id (rw h.1 at h.0) new))
more_cases seen old grown id n x are kept within new next (inr h) =
    get_or-set_other grown id x (Some n) None h.1 ∙ (kept x ∙ (are x ∙ sym (number_kept seen x id h.0)))

-- the table has the numbers once that of the next is written
pub numbers_more : (seen : List ℕ) (old grown : List (Option ℕ)) (id n : ℕ) → AreNumbersOf seen old → ((o : ℕ) → get_or grown o None ≡ get_or old o None) → id < length grown → list_any (λ y. id == y) seen ≡ false → n ≡ length seen + 1
    → AreNumbersOf (seen ++ id ∷ []) (set grown id (Some n))
numbers_more seen old grown id n are kept within new next x = more_cases seen old grown id n x are kept within new next (eqb_tells x id)
