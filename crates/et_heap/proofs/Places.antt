-- Objects in a list that begins with object 1, and what such a list counts.
use Rattle.std.proofs.Common.{◌≡◌, ℕ, zero, suc, ◌+◌, ◌-◌, ◌<◌, ◌≤◌, [], ◌∷◌, length, Option, Some, None, get_or, set, ap, subst, sym, refl, ◌∙◌, arith}
use Rattle.std.proofs.lemmas.List.Sums.{sum_by-cons, sum_by-set}
use Rattle.std.specs.Option.{option_to_list}
use Rattle.et_heap.specs.Stored.{Stored, StoredPlaces, stored_in, as_stored, stored_at, is_stored, IsStored, slots_stored, stored_slots, ones_stored, stored_count, referents_stored, stored_referents}

pub held-positive : (xs : StoredPlaces) (o : ℕ) → IsStored (None ∷ xs) o → 0 < o
held-positive xs zero held = absurd held
held-positive xs (suc k) held = omega arith

-- object o stands at the place before its number
pub at-below : (xs : StoredPlaces) (o : ℕ) → 0 < o → stored_in (None ∷ xs) o ≡ get_or xs (o - 1) None
at-below xs zero lt = absurd (omega arith)
at-below xs (suc k) lt = let e : k ≡ suc k - 1 = omega arith in ap (λ n. get_or xs n None) e

pub set-below : (xs : StoredPlaces) (o : ℕ) (y : Option Stored) → 0 < o → set (None ∷ xs) o y ≡ None ∷ set xs (o - 1) y
set-below xs zero y lt = absurd (omega arith)
set-below xs (suc k) y lt = let e : k ≡ suc k - 1 = omega arith in ap (λ n. None ∷ set xs n y) e

pub stands-some : (p : Option Stored) (x : Stored) → p ≡ Some x → is_stored p
stands-some p x is = subst is_stored (sym is) tt

pub there_below : (xs : StoredPlaces) (i : ℕ) → is_stored (get_or xs i None) → i < length xs
there_below [] i held = absurd held
there_below (x ∷ xs) zero held = omega arith
there_below (x ∷ xs) (suc i) held = let lt = there_below xs i held in omega arith

pub stored_count-le : (xs : StoredPlaces) → stored_count xs ≤ length xs
stored_count-le [] = omega arith
stored_count-le (None ∷ xs) = let le = stored_count-le xs in omega (arith, sum_by-cons ones_stored None xs)
stored_count-le (Some x ∷ xs) = let le = stored_count-le xs in omega (arith, sum_by-cons ones_stored (Some x) xs)

pub at_most_one : (r : Option ℕ) → length (option_to_list r) ≤ 1
at_most_one None = omega arith
at_most_one (Some o) = omega arith

referents-le_one : (p : Option Stored) → referents_stored p ≤ 1
referents-le_one None = omega arith
referents-le_one (Some x) = at_most_one x.state.referent

pub stored_referents-le : (xs : StoredPlaces) → stored_referents xs ≤ length xs
stored_referents-le [] = omega arith
stored_referents-le (x ∷ xs) = let le = stored_referents-le xs in omega (arith, sum_by-cons referents_stored x xs, referents-le_one x)

one_there : (p : Option Stored) → is_stored p → ones_stored p ≡ 1
one_there None held = absurd held
one_there (Some x) held = refl

slots_there : (p : Option Stored) → slots_stored p ≡ length (as_stored p).state.slots
slots_there None = refl
slots_there (Some x) = refl

-- an object that is taken out is no longer counted, nor are its slots
pub stored_count-set : (xs : StoredPlaces) (i : ℕ) → IsStored xs i → stored_count (set xs i None) + 1 ≡ stored_count xs
stored_count-set xs i held =
    let e = sum_by-set ones_stored xs i None None (there_below xs i held) in
    let one = one_there (get_or xs i None) held in
    omega arith

pub stored_count-without : (xs : StoredPlaces) (o : ℕ) → IsStored (None ∷ xs) o → stored_count (set xs (o - 1) None) + 1 ≡ stored_count xs
stored_count-without xs o held = stored_count-set xs (o - 1) (subst is_stored (at-below xs o (held-positive xs o held)) held)

pub stored_slots-without : (xs : StoredPlaces) (o : ℕ) → IsStored (None ∷ xs) o → stored_slots (set xs (o - 1) None) + length (stored_at (None ∷ xs) o).state.slots ≡ stored_slots xs
stored_slots-without xs o held =
    let there : is_stored (get_or xs (o - 1) None) = subst is_stored (at-below xs o (held-positive xs o held)) held in
    let lt = there_below xs (o - 1) there in
    let e = sum_by-set slots_stored xs (o - 1) None None lt in
    let these = slots_there (stored_in (None ∷ xs) o) in
    let same : slots_stored (stored_in (None ∷ xs) o) ≡ slots_stored (get_or xs (o - 1) None) = ap slots_stored (at-below xs o (held-positive xs o held)) in
    omega arith

-- another object in its place counts as well
pub stored_count-written : (xs : StoredPlaces) (o : ℕ) (x : Stored) → IsStored (None ∷ xs) o → stored_count (set xs (o - 1) (Some x)) ≡ stored_count xs
stored_count-written xs o x held =
    let there : is_stored (get_or xs (o - 1) None) = subst is_stored (at-below xs o (held-positive xs o held)) held in
    let e = sum_by-set ones_stored xs (o - 1) (Some x) None (there_below xs (o - 1) there) in
    let one = one_there (get_or xs (o - 1) None) there in
    omega arith

pub stored_slots-written : (xs : StoredPlaces) (o : ℕ) (x : Stored) → IsStored (None ∷ xs) o → length x.state.slots ≡ length (stored_at (None ∷ xs) o).state.slots → stored_slots (set xs (o - 1) (Some x)) ≡ stored_slots xs
stored_slots-written xs o x held slots =
    let there : is_stored (get_or xs (o - 1) None) = subst is_stored (at-below xs o (held-positive xs o held)) held in
    let e = sum_by-set slots_stored xs (o - 1) (Some x) None (there_below xs (o - 1) there) in
    let these = slots_there (stored_in (None ∷ xs) o) in
    let same : slots_stored (stored_in (None ∷ xs) o) ≡ slots_stored (get_or xs (o - 1) None) = ap slots_stored (at-below xs o (held-positive xs o held)) in
    omega arith

referents_there : (p : Option Stored) → referents_stored p ≡ length (option_to_list (as_stored p).state.referent)
referents_there None = refl
referents_there (Some x) = refl

pub referents_at : (xs : StoredPlaces) (o : ℕ) → IsStored (None ∷ xs) o → referents_stored (get_or xs (o - 1) None) ≡ length (option_to_list (stored_at (None ∷ xs) o).state.referent)
referents_at xs o held = ap referents_stored (sym (at-below xs o (held-positive xs o held))) ∙ referents_there (stored_in (None ∷ xs) o)

-- what an object refers to weakly is counted by what stands in its place
pub stored_referents-set : (xs : StoredPlaces) (o : ℕ) (p : Option Stored) → IsStored (None ∷ xs) o → stored_referents (set xs (o - 1) p) + length (option_to_list (stored_at (None ∷ xs) o).state.referent) ≡ stored_referents xs + referents_stored p
stored_referents-set xs o p held =
    let there : is_stored (get_or xs (o - 1) None) = subst is_stored (at-below xs o (held-positive xs o held)) held in
    omega (arith, sum_by-set referents_stored xs (o - 1) p None (there_below xs (o - 1) there), referents_at xs o held)
