-- The calls that are to fail.
use Rattle.std.proofs.Common.{◌≡◌, ℕ, ◌+◌, ◌<◌, ◌≤◌, ◌^◌, true, false, List, cond, min, refl, sym, subst, ◌∙◌, ◌⊎◌, inl, inr, arith, rules}
use Rattle.et_io.specs.Calls.{Calls, AreCounted, next_fails}
use Rattle.std.specs.List.{All, list_any}
use Rattle.std.specs.Ordering.{nat_cmp, is_eq}
use Rattle.std.specs.Cmp.{Equal-is}
use Rattle.std.specs.FinMap.{nat_cmp-IsAntisymmetric}
use Rattle.std.proofs.lemmas.List.Folds.{Any-from_list_any}

-- numbers that compare `Equal` are equal
pub same_number : (a b : ℕ) → is_eq (nat_cmp a b) ≡ true → a ≡ b
same_number a b e = nat_cmp-IsAntisymmetric a b (search (rules, Equal-is (nat_cmp a b), e))

-- what holds of each number of a list holds of one that is found in it
pub All-found : (P : ℕ → Type 0) (number : ℕ) (numbers : List ℕ) → All P numbers → list_any (λ n. is_eq (nat_cmp number n)) numbers ≡ true → P number
All-found P number numbers all found =
    let (k, n, within, at, same) = Any-from_list_any (λ n. is_eq (nat_cmp number n)) numbers found in
    subst P (at ∙ sym (same_number number n same)) (all k n within)

-- no more calls failed than were made, one call on
pub no_more_faults : (calls : Calls) (made more : ℕ) → AreCounted calls → made ≡ min (calls.made + 1) (2 ^ 63) → more ≡ cond (next_fails calls) 1 0 → calls.faults + more ≤ made
no_more_faults calls made more counted made_is more_is =
    let fits : next_fails calls ≡ true → calls.made + 1 < 2 ^ 63 = All-found (λ number. number < 2 ^ 63) (calls.made + 1) calls.failing counted.below in
    let fits_or : (next_fails calls ≡ false) ⊎ ((next_fails calls ≡ true) × (calls.made + 1 < 2 ^ 63)) =
    elim (next_fails calls) as (λ b. (b ≡ true → calls.made + 1 < 2 ^ 63) → (b ≡ false) ⊎ ((b ≡ true) × (calls.made + 1 < 2 ^ 63))) [
      | true ↦ λ f. inr (refl, f refl)
      | false ↦ λ f. inl refl
    ] fits in
    grind (arith, made_is, more_is, fits_or, counted.no_more, counted.made_fits)
