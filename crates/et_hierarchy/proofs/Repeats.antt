-- Repeats of a list add nothing.
use Rattle.std.proofs.Common.{◌≡◌, ℕ, ◌<◌, ◌==◌, Bool, true, false, cond, List, [], ◌∷◌, ◌++◌, refl, sym, ◌∙◌, ap, subst, append-nil, append_assoc, Contains}
use mathlib.Core.Logic.{⊎_elim}
use Rattle.std.specs.Prelude.{All}
use Rattle.std.specs.List.{list_any, flat_map}
use Rattle.std.proofs.lemmas.Bool.{cases_Bool, eqb-true, eq-eqb}
use Rattle.std.proofs.lemmas.List.Concat.{flat_map-append}
use Rattle.std.proofs.lemmas.List.Elements.{All-nil, Contains-append_left, Contains-append_right}
use Rattle.et_base.proofs.Lists.{Contains-none, Contains-here, Contains-there, Contains-cons, any_contains, contains_any}
use Rattle.et_hierarchy.specs.Ancestry.{class_added, added_all, once}
use Rattle.et_hierarchy.proofs.AddLemmas.{added_all-append}
use Rattle.et_hierarchy.proofs.BelowLemmas.{below_added_all}

-- WHAT IS THERE ONCE IT WAS ADDED

is_there : (seen : List ℕ) (x : ℕ) → Contains seen x → class_added seen x ≡ seen
is_there seen x h = ap (λ b. cond b seen (seen ++ x ∷ [])) (contains_any (λ y. x == y) x (eq-eqb x x refl) seen h)

added_has : (seen : List ℕ) (x : ℕ) → Contains (class_added seen x) x
added_has seen x = by (list_any (λ y. x == y) seen) refl
  where
    by : (b : Bool) → list_any (λ y. x == y) seen ≡ b → Contains (cond b seen (seen ++ x ∷ [])) x
    by true e = any_contains (λ y. x == y) x (λ y t. sym (eqb-true x y t)) seen e
    by false e = Contains-append_right seen (x ∷ []) x (Contains-here x [])

added_keeps : (seen : List ℕ) (y x : ℕ) → Contains seen x → Contains (class_added seen y) x
added_keeps seen y x h = by (list_any (λ z. y == z) seen)
  where
    by : (b : Bool) → Contains (cond b seen (seen ++ y ∷ [])) x
    by true = h
    by false = Contains-append_left seen (y ∷ []) x h

all_keep : (seen xs : List ℕ) (x : ℕ) → Contains seen x → Contains (added_all seen xs) x
all_keep seen [] x h = h
all_keep seen (y ∷ ys) x h = all_keep (class_added seen y) ys x (added_keeps seen y x h)

pub added_all_has : (seen xs : List ℕ) (x : ℕ) → Contains xs x → Contains (added_all seen xs) x
added_all_has seen [] x h = absurd (Contains-none x h)
added_all_has seen (y ∷ ys) x h =
    ⊎_elim
    (λ e. all_keep (class_added seen y) ys x (subst (λ (z : ℕ). Contains (class_added seen y) z) e (added_has seen y)))
    (λ d. added_all_has (class_added seen y) ys x d)
    (Contains-cons y ys x h)

-- what is there already adds nothing
pub nothing_new : (seen ys : List ℕ) → ((y : ℕ) → Contains ys y → Contains seen y) → added_all seen ys ≡ seen
nothing_new seen [] h = refl
nothing_new seen (y ∷ ys) h =
    ap (λ (s : List ℕ). added_all s ys) (is_there seen y (h y (Contains-here y ys)))
    ∙ nothing_new seen ys (λ z d. h z (Contains-there y ys z d))

pub flat_has : (f : ℕ → List ℕ) (xs : List ℕ) (t x : ℕ) → Contains xs t → Contains (f t) x → Contains (flat_map f xs) x
flat_has f [] t x h c = absurd (Contains-none t h)
flat_has f (y ∷ ys) t x h c =
    ⊎_elim
    (λ e. Contains-append_left (f y) (flat_map f ys) x (subst (λ (z : ℕ). Contains (f z) x) (sym e) c))
    (λ d. Contains-append_right (f y) (flat_map f ys) x (flat_has f ys t x d c))
    (Contains-cons y ys t h)

-- WHAT A LIST LEADS TO is added by each of its elements once

passed_over : (f : ℕ → List ℕ) (seen acc : List ℕ) (x : ℕ) (xs : List ℕ) → Contains acc x → added_all seen (flat_map f (acc ++ x ∷ xs)) ≡ added_all seen (flat_map f (acc ++ xs))
passed_over f seen acc x xs h =
    let s : List ℕ = added_all seen (flat_map f acc) in
    let left : added_all seen (flat_map f (acc ++ x ∷ xs)) ≡ added_all (added_all s (f x)) (flat_map f xs) =
    ap (added_all seen) (flat_map-append f acc (x ∷ xs)) ∙ (added_all-append seen (flat_map f acc) (f x ++ flat_map f xs) ∙ added_all-append s (f x) (flat_map f xs)) in
    let right : added_all seen (flat_map f (acc ++ xs)) ≡ added_all s (flat_map f xs) =
    ap (added_all seen) (flat_map-append f acc xs) ∙ added_all-append seen (flat_map f acc) (flat_map f xs) in
    left ∙ (ap (λ (z : List ℕ). added_all z (flat_map f xs)) (nothing_new s (f x) (λ y d. added_all_has seen (flat_map f acc) y (flat_has f acc x y h d))) ∙ sym right)

repeats_pass : (f : ℕ → List ℕ) (seen acc xs : List ℕ) → added_all seen (flat_map f (added_all acc xs)) ≡ added_all seen (flat_map f (acc ++ xs))
repeats_pass f seen acc [] = ap (λ (zs : List ℕ). added_all seen (flat_map f zs)) (sym (append-nil acc))
repeats_pass f seen acc (x ∷ xs) =
    ⊎_elim
    (λ y.
    let there : Contains acc x = any_contains (λ z. x == z) x (λ z t. sym (eqb-true x z t)) acc y in
    ap (λ (a : List ℕ). added_all seen (flat_map f (added_all a xs))) (is_there acc x there)
    ∙ (repeats_pass f seen acc xs ∙ sym (passed_over f seen acc x xs there)))
    (λ n.
    let new : class_added acc x ≡ acc ++ x ∷ [] = ap (λ b. cond b acc (acc ++ x ∷ [])) n in
    ap (λ (a : List ℕ). added_all seen (flat_map f (added_all a xs))) new
    ∙ (repeats_pass f seen (acc ++ x ∷ []) xs ∙ ap (λ (zs : List ℕ). added_all seen (flat_map f zs)) (append_assoc acc (x ∷ []) xs)))
    (cases_Bool (list_any (λ y. x == y) acc))

pub once_leads : (f : ℕ → List ℕ) (seen xs : List ℕ) → added_all seen (flat_map f (once xs)) ≡ added_all seen (flat_map f xs)
once_leads f seen xs = repeats_pass f seen [] xs

-- what holds of the classes of a list holds of each of them once
pub once_within : (n : ℕ) (xs list ys : List ℕ) → All (λ k. k < n) xs → list ≡ xs → ys ≡ once list → All (λ k. k < n) ys
once_within n xs list ys h same is =
    subst (All (λ k. k < n)) (sym (is ∙ ap once same)) (below_added_all n [] xs (All-nil (λ k. k < n)) h)
