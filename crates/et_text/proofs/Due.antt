-- No flush is missing before an event where it is at most an interval behind the last one that was due.
use Rattle.std.proofs.Common.{◌≡◌, ℕ, zero, suc, ◌+◌, ◌-◌, ◌*◌, ◌/◌, ◌%◌, ◌<◌, ◌≤◌, ◌⊎◌, inl, inr, false, ◌||◌, eqb, leb, Option, Some, None, refl, subst, arith}
use Rattle.std.proofs.lemmas.Bool.Decides.{nat_tests}
use Rattle.std.proofs.lemmas.Nat.{div-add-mod', div_below, le-div}
use Rattle.et_text.specs.Rules.{misses_no_flush}
use Rattle.et_text.specs.StandsFor.{last_due}

none_missed : (every flush event : ℕ) → 0 < every → event - (flush - flush % every) ≤ every → (event - 1) / every ≤ flush / every
none_missed every flush event some le =
    let whole = div-add-mod' flush every in
    let room : event - 1 < (flush / every + 1) * every = omega arith in
    let below = div_below (event - 1) every (flush / every + 1) some room in
    omega arith

pub le_or_above : (a b : ℕ) → (a ≤ b) ⊎ (b < a)
le_or_above a b = grind (arith, nat_tests)

is_near : (every flush event : ℕ) → 0 < every → (event - 1) / every ≤ flush / every → event - (flush - flush % every) ≤ every
is_near every flush event some le =
    let whole = div-add-mod' flush every in
    elim (le_or_above (event - (flush - flush % every)) every) [
      | inl near ↦ near
      | inr far ↦ let missed = le-div (flush / every + 1) (event - 1) every some (omega arith) in absurd (omega arith)
    ]

same_tests : (a b c d : ℕ) → (a ≤ b → c ≤ d) → (c ≤ d → a ≤ b) → leb a b ≡ leb c d
same_tests a b c d there back = grind (arith, nat_tests)

at_flush : (every flush event : ℕ) → 0 < every → leb (event - (flush - flush % every)) every ≡ leb ((event - 1) / every) (flush / every)
at_flush every flush event some = same_tests (event - (flush - flush % every)) every ((event - 1) / every) (flush / every) (none_missed every flush event some) (is_near every flush event some)

pub due_is : (every : ℕ) (newest : Option ℕ) (event : ℕ) → (eqb every 0 || leb (event - last_due every newest) every) ≡ misses_no_flush every newest event
due_is zero newest event = refl
due_is (suc n) None event =
    let e : eqb (suc n) 0 ≡ false = grind (arith, nat_tests) in
    let first : 0 - 0 % suc n ≡ 0 = omega arith in
    rw e (subst (λ (due : ℕ). leb (event - due) (suc n) ≡ leb ((event - 1) / suc n) (0 / suc n)) first (at_flush (suc n) 0 event (omega arith)))
due_is (suc n) (Some flush) event =
    let e : eqb (suc n) 0 ≡ false = grind (arith, nat_tests) in
    rw e (at_flush (suc n) flush event (omega arith))
