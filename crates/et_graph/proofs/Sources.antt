-- The objects in the order in which a search takes them.
use Rattle.std.proofs.Common.{◌≡◌, ℕ, zero, suc, ◌+◌, ◌-◌, ◌<◌, ◌≤◌, ◌^◌, List, [], ◌∷◌, length, get_or, Contains, All, sym, ◌∙◌, ap, inl, inr, arith}
use Rattle.std.specs.List.Sorted.{IsPermutation, IsNonDecreasingBy}
use Rattle.std.proofs.lemmas.List.{get_or_default}
use Rattle.std.proofs.lemmas.List.Elements.{Contains-get_or}
use Rattle.std.proofs.lemmas.List.Sorted.{Contains-permutation, IsPermutation-sym}
use Rattle.et_graph.specs.declared.objects.Death.{Death}
use Rattle.et_graph.specs.Order.{sources, IsOneOf, IsOrder}
use Rattle.et_base.proofs.Lists.{Contains-none, Contains-here, Contains-there, Contains-cons}

-- the source stands at this place
pub record IsSourceAt (k : ℕ) (times : List ℕ) (s : Death) : Type 0 where
  pub place : ℕ
  pub object : s.object ≡ k + place
  pub within : place < length times
  pub time : s.time ≡ get_or times place 0

source_at : (k : ℕ) (times : List ℕ) (s : Death) → Contains (sources k times) s → IsSourceAt k times s
source_at k [] s c = absurd (Contains-none s c)
source_at k (t ∷ times) s c =
    elim (Contains-cons (record { object = k; time = t }) (sources (k + 1) times) s c) [
      | inl e ↦
          let object : k ≡ s.object = ap (λ (z : Death). z.object) e in
          let time : t ≡ s.time = ap (λ (z : Death). z.time) e in
          record { place = 0; object = omega (arith, object); within = omega arith; time = sym time }
      | inr d ↦
          let r = source_at (k + 1) times s d in
          record { place = suc r.place; object = omega (arith, r.object); within = omega (arith, r.within); time = r.time }
    ]

at_source : (k : ℕ) (times : List ℕ) (place : ℕ) → place < length times → (s : Death) × Contains (sources k times) s × (s.object ≡ k + place)
at_source k [] place lt = absurd (omega arith)
at_source k (t ∷ times) zero lt =
    let s : Death = record { object = k; time = t } in
    (s, Contains-here s (sources (k + 1) times), omega arith)
at_source k (t ∷ times) (suc place) lt =
    let r = at_source (k + 1) times place (omega arith) in
    (r.0, Contains-there (record { object = k; time = t }) (sources (k + 1) times) r.0 r.1, omega (arith, r.2))

module _ (times : List ℕ) (order : List Death) (below : All (λ t. t < 2 ^ 64) times) (same : IsPermutation (sources 1 times) order) where
  at_place : (s : Death) → Contains order s → IsSourceAt 1 times s
  at_place s c = source_at 1 times s (Contains-permutation order (sources 1 times) s (IsPermutation-sym (sources 1 times) order same) c)

  time_at : (s : Death) → Contains order s → (s.time ≡ get_or times (s.object - 1) 0) × (s.time < 2 ^ 64)
  time_at s c =
      let r = at_place s c in
      let place : r.place ≡ s.object - 1 = omega (arith, r.object) in
      let at : get_or times r.place 0 ≡ get_or times (s.object - 1) 0 = ap (λ (i : ℕ). get_or times i 0) place in
      (r.time ∙ at, omega (arith, r.time, below r.place 0 r.within))

  pub order_is : IsNonDecreasingBy (λ (s : Death). 2 ^ 64 - 1 - s.time) order → IsOrder (IsOneOf (length times)) times order
  order_is rises = record {
    each = λ s c. let r = at_place s c in (omega (arith, r.object), omega (arith, r.object, r.within));
    all = λ o (above, le).
        let r = at_source 1 times (o - 1) (omega arith) in
        let c = Contains-permutation (sources 1 times) order r.0 same r.1 in
        (c.0, c.1, λ d. ap (λ (z : Death). z.object) (get_or_default order c.0 d r.0 c.1 ∙ c.2) ∙ omega (arith, r.2));
    falls = λ i j d le lt.
        let a = time_at (get_or order i d) (Contains-get_or order i d (omega arith)) in
        let b = time_at (get_or order j d) (Contains-get_or order j d lt) in
        omega (arith, a, b, rises i j d le lt);
  }
