-- Where each of a finite set of objects is referred to by one of the set, one of them stands on a cycle.
use Rattle.std.proofs.Common.{◌≡◌, ℕ, zero, suc, ◌+◌, ◌<◌, Bool, true, false, ◌||◌, eqb, List, [], ◌∷◌, length, refl, sym, subst, arith, inl, inr, ◌⊎◌}
use Rattle.std.specs.Prelude.{Contains}
use Rattle.std.specs.List.{list_any, AllByRecursion, IsDistinct}
use Rattle.std.proofs.lemmas.Map.Steps.{length-le_from_distinct_below}
use Rattle.std.proofs.lemmas.Bool.Decides.{nat_tests}
use Rattle.std.proofs.lemmas.Bool.{cases_Bool}
use Rattle.et_graph.specs.Graph.{IsWalk, Leads}
use Rattle.et_graph.proofs.Walks.{leads_itself, leads_first}
use Rattle.et_base.proofs.Lists.{Contains-none, Contains-cons, any_contains}
use Rattle.et_base.proofs.Tests.{cases_eqb}

-- the last step of a walk
pub last_step : (pairs : List (ℕ × ℕ)) (r : ℕ) (walk : List ℕ) (o : ℕ) → IsWalk pairs r walk o → (r ≡ o) ⊎ ((u : ℕ) × Leads pairs r u × Contains pairs (u, o))
last_step pairs r [] o w = inl w
last_step pairs r (x ∷ walk) o w = elim (last_step pairs x walk o w.1) [
  | inl e ↦ inr (r, leads_itself pairs r, subst (λ (k : ℕ). Contains pairs (r, k)) e w.0)
  | inr s ↦ inr (s.0, leads_first pairs r x s.0 w.0 s.1, s.2)
]

none_any : (y : ℕ) (xs : List ℕ) → list_any (eqb y) xs ≡ false → AllByRecursion (λ z. eqb y z ≡ false) xs
none_any y [] e = tt
none_any y (x ∷ xs) e = (let p = or_parts (eqb y x) (list_any (eqb y) xs) e in (p.0, none_any y xs p.1))
  where
    or_parts : (a b : Bool) → (a || b) ≡ false → (a ≡ false) × (b ≡ false)
    or_parts true b f = absurd cc
    or_parts false b f = (refl, f)

distinct_more : (y : ℕ) (xs : List ℕ) → list_any (eqb y) xs ≡ false → IsDistinct eqb xs → IsDistinct eqb (y ∷ xs)
unfolding IsDistinct
distinct_more y xs e d = (none_any y xs e, d)

one_distinct : (x : ℕ) → IsDistinct eqb (x ∷ [])
unfolding IsDistinct
one_distinct x = (tt, tt)

-- z refers to something from which a path leads back to it
pub record IsOnCycle (pairs : List (ℕ × ℕ)) (B : ℕ → Type 0) (z : ℕ) : Type 0 where
  pub among : B z
  pub next : ℕ
  pub refers : Contains pairs (z, next)
  pub back : Leads pairs next z

module _ (pairs : List (ℕ × ℕ)) (B : ℕ → Type 0) (m : ℕ) (low : (x : ℕ) → B x → x < m) (before : (x : ℕ) → B x → (y : ℕ) × B y × Contains pairs (y, x)) where
  -- walking back from x, past what was seen
  back_from : (k x : ℕ) (seen : List ℕ) → IsDistinct eqb (x ∷ seen) → ((q : ℕ) → list_any (eqb q) (x ∷ seen) ≡ true → q < m) → B x → ((v : ℕ) → Contains seen v → Leads pairs x v) → length seen + k ≡ m → (z : ℕ) × IsOnCycle pairs B z
  back_from zero x seen d l b to e =
      let short = length-le_from_distinct_below (x ∷ seen) m d l in
      absurd (omega (arith, short, e))
  back_from (suc k) x seen d l b to e =
      let p = before x b in
      let y = p.0 in
      elim (cases_Bool (list_any (eqb y) (x ∷ seen))) [
        | inl old ↦
            let c : Contains (x ∷ seen) y = any_contains (eqb y) y (λ z t. same y z t) (x ∷ seen) old in
            (y, record { among = p.1; next = x; refers = p.2; back = elim (Contains-cons x seen y c) [ inl q ↦ subst (λ (v : ℕ). Leads pairs x v) q (leads_itself pairs x) | inr s ↦ to y s ] })
        | inr new ↦ back_from k y (x ∷ seen) (distinct_more y (x ∷ seen) new d) (λ q h. lower x seen l y (low y p.1) q h) p.1 (λ v c. leads_first pairs y x v p.2 (elim (Contains-cons x seen v c) [ inl q ↦ subst (λ (w : ℕ). Leads pairs x w) q (leads_itself pairs x) | inr s ↦ to v s ])) (omega (arith, e))
      ]
    where
      same : (a b : ℕ) → eqb a b ≡ true → b ≡ a
      same a b t = grind (arith, nat_tests)

      lower : (x : ℕ) (seen : List ℕ) → ((q : ℕ) → list_any (eqb q) (x ∷ seen) ≡ true → q < m) → (y : ℕ) → y < m → (q : ℕ) → list_any (eqb q) (y ∷ x ∷ seen) ≡ true → q < m
      lower x seen l y lt q h = elim (cases_eqb q y) [
        | inl f ↦ subst (λ (v : ℕ). v < m) (sym f.1) lt
        | inr f ↦ l q (subst (λ (t : Bool). (t || list_any (eqb q) (x ∷ seen)) ≡ true) f.0 h)
      ]

  pub cycle_from : (x : ℕ) → B x → (z : ℕ) × IsOnCycle pairs B z
  cycle_from x b = back_from m x [] (one_distinct x) (λ q h. elim (cases_eqb q x) [
    | inl f ↦ subst (λ (v : ℕ). v < m) (sym f.1) (low x b)
    | inr f ↦ none (subst (λ (t : Bool). (t || false) ≡ true) f.0 h)
  ]) b (λ v c. nothing v c) (omega arith)
    where
      none : {A : Type 0} → (false || false) ≡ true → A
      none h = absurd cc

      nothing : (v : ℕ) → Contains [] v → Leads pairs x v
      nothing v c = absurd (Contains-none v c)
