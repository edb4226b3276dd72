-- Where none died, all stay as they are.
use Rattle.std.proofs.Common.{◌≡◌, ℕ, ◌+◌, Bool, true, false, List, [], ◌∷◌, ◌++◌, Contains, Option, Some, None, refl, sym, ◌∙◌, ap, subst, inl, inr}
use Rattle.std.specs.Prelude.{if◌then◌else◌}
use Rattle.std.proofs.lemmas.Bool.{cases_lt, le-leb}
use Rattle.et_base.proofs.Lists.{Contains-none}
use Rattle.et_heap.specs.Objects.{ObjectState, Objects, IsHeld, object_at}
use Rattle.et_heap.specs.Remaining.{kept_referent, left_place, remaining}
use Rattle.et_flush.specs.declared.times.TheConstants.{NOW}
use Rattle.et_heap.specs.Cleared.{loses_referent, cleared_references}
use Rattle.et_flush.specs.Searches.{AreDyingIn}
use Rattle.et_flush.specs.Sweeps.{is_now}
use Rattle.et_flush.proofs.Reaching.{remaining_same, cleared_same}

abbrev all_stay : ℕ → Bool
all_stay o = true

referent_stays : (p : Option ℕ) → kept_referent all_stay p ≡ p
referent_stays None = refl
referent_stays (Some r) = refl

place_stays : (p : Option ObjectState) → left_place all_stay true p ≡ p
place_stays None = refl
place_stays (Some x) = ap (λ (r : Option ℕ). Some (record x { referent = r })) (referent_stays x.referent)

remaining_all : (k : ℕ) (xs : Objects) → remaining all_stay k xs ≡ xs
remaining_all k [] = refl
remaining_all k (x ∷ xs) = ap (λ (p : Option ObjectState). p ∷ remaining all_stay (k + 1) xs) (place_stays x) ∙ ap (λ (ys : Objects). x ∷ ys) (remaining_all (k + 1) xs)

none_loses : (x : Option ObjectState) → loses_referent all_stay true x ≡ false
none_loses None = refl
none_loses (Some x) = at x.referent
  where
    at : (p : Option ℕ) → loses_referent all_stay true (Some (record x { referent = p })) ≡ false
    at None = refl
    at (Some r) = refl

cleared_none : (k : ℕ) (xs : Objects) → cleared_references all_stay k xs ≡ []
cleared_none k [] = refl
cleared_none k (x ∷ xs) = ap (λ (b : Bool). (if b then k ∷ [] else []) ++ cleared_references all_stay (k + 1) xs) (none_loses x) ∙ cleared_none (k + 1) xs

module _ (heap : Objects) (time : ℕ → ℕ) (deaths : List (ℕ × ℕ)) (dying : AreDyingIn heap time deaths) (none : deaths ≡ []) (referents : (u r : ℕ) → (object_at heap u).referent ≡ Some r → IsHeld heap r) where
  all_live : (o : ℕ) → IsHeld heap o → is_now time o ≡ all_stay o
  all_live o held =
      elim (cases_lt (time o) NOW) [
        | inl lt ↦ absurd (Contains-none (o, time o) (subst (λ (ds : List (ℕ × ℕ)). Contains ds (o, time o)) none ((dying.exact o (time o)).1 (held, refl, lt))))
        | inr le ↦ le-leb NOW (time o) le
      ]

  pub all_remain : heap ≡ remaining (is_now time) 0 heap
  all_remain = sym (remaining_same heap (is_now time) all_stay all_live referents ∙ remaining_all 0 heap)

  pub none_cleared : [] ≡ cleared_references (is_now time) 0 heap
  none_cleared = sym (cleared_same heap (is_now time) all_stay all_live referents ∙ cleared_none 0 heap)
