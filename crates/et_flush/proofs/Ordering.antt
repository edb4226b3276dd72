-- The ranks of what wasn't reached, in the order in which a search takes them.
use Rattle.std.proofs.Common.{◌≡◌, ℕ, ◌+◌, ◌-◌, ◌<◌, ◌≤◌, ◌^◌, Bool, true, false, List, [], ◌∷◌, ◌++◌, length, get_or, Contains, All, sym, ◌∙◌, ap, subst, inl, inr, arith}
use Rattle.std.specs.List.Sorted.{IsPermutation, IsNonDecreasingBy}
use Rattle.std.proofs.lemmas.Bool.{cases_lt, both_ways}
use Rattle.std.proofs.lemmas.List.{get_or_default}
use Rattle.std.proofs.lemmas.List.Elements.{Contains-get_or, Contains-push, Contains-append_left, Contains-push_cases}
use Rattle.std.proofs.lemmas.List.Sorted.{Contains-permutation, IsPermutation-sym}
use Rattle.et_base.proofs.Lists.{Contains-none}
use Rattle.et_graph.specs.declared.objects.Death.{Death}
use Rattle.et_graph.specs.Order.{IsOrder}
use Rattle.et_graph.specs.Times.{IsSet}
use Rattle.et_flush.specs.Searches.{IsLeftRank, AreSources}

-- the first i ranks, but those of what was reached
pub record AreSourcesTo (times : List ℕ) (reached : List Bool) (i : ℕ) (order : List Death) : Type 0 where
  pub each : (s : Death) → Contains order s → IsLeftRank i reached s.object × (s.time ≡ get_or times (s.object - 1) 0)
  pub all : (rank : ℕ) → IsLeftRank i reached rank → (s : Death) × Contains order s × (s.object ≡ rank)

pub sources_none : (times : List ℕ) (reached : List Bool) (order : List Death) → order ≡ [] → AreSourcesTo times reached 0 order
sources_none times reached order none = record {
  each = λ s c. absurd (Contains-none s (subst (λ (ss : List Death). Contains ss s) none c));
  all = λ rank left. absurd (let one = left.one in let first = one.0 in let last = one.1 in omega (arith, first, last));
}

module _ (times : List ℕ) (reached : List Bool) (i : ℕ) (order : List Death) (are : AreSourcesTo times reached i order) where
  left_more : (rank : ℕ) → IsLeftRank i reached rank → IsLeftRank (i + 1) reached rank
  left_more rank left = record { one = let one = left.one in (one.0, let last = one.1 in omega (arith, last)); left = left.left }

  left_before : (rank : ℕ) → IsLeftRank (i + 1) reached rank → rank ≤ i → IsLeftRank i reached rank
  left_before rank left le = record { one = (left.one.0, le); left = left.left }

  -- one more rank is left
  pub sources_hit : (order' : List Death) (s : Death) → order' ≡ order ++ s ∷ [] → s.object ≡ i + 1 → s.time ≡ get_or times i 0 → get_or reached i false ≡ false → AreSourcesTo times reached (i + 1) order'
  sources_hit order' s push object age flag =
      let place : s.object - 1 ≡ i = omega arith in
      let out : ¬ IsSet reached s.object = λ t. both_ways (get_or reached i false) flag (ap (λ (j : ℕ). get_or reached j false) (sym place) ∙ t) in
      let here : IsLeftRank (i + 1) reached s.object × (s.time ≡ get_or times (s.object - 1) 0) = (record { one = (omega arith, omega arith); left = out }, age ∙ ap (λ (j : ℕ). get_or times j 0) (sym place)) in
      subst (λ (ss : List Death). AreSourcesTo times reached (i + 1) ss) (sym push)
      (record {
        each = λ z c.
            elim (Contains-push_cases order s z c) [
              | inl d ↦ let e = are.each z d in (left_more z.object e.0, e.1)
              | inr e ↦ subst (λ (y : Death). IsLeftRank (i + 1) reached y.object × (y.time ≡ get_or times (y.object - 1) 0)) e here
            ];
        all = λ rank left.
            elim (cases_lt i rank) [
              | inl last ↦ (s, Contains-push order s, let one = left.one in let most = one.1 in omega (arith, most, last, object))
              | inr before ↦ let r = are.all rank (left_before rank left before) in (r.0, Contains-append_left order (s ∷ []) r.0 r.1, r.2)
            ];
      })

  -- one more was reached
  pub sources_miss : get_or reached i false ≡ true → AreSourcesTo times reached (i + 1) order
  sources_miss flag = record {
    each = λ z c. let e = are.each z c in (left_more z.object e.0, e.1);
    all = λ rank left.
        elim (cases_lt i rank) [
          | inl last ↦ absurd (left.left (ap (λ (j : ℕ). get_or reached j false) (let one = left.one in let most = one.1 in let place : rank - 1 ≡ i = omega (arith, most, last) in place) ∙ flag))
          | inr before ↦ are.all rank (left_before rank left before)
        ];
  }

pub sources_all : (times : List ℕ) (reached : List Bool) (i : ℕ) (order : List Death) → AreSourcesTo times reached i order → i ≡ length times → AreSources times reached order
sources_all times reached i order are end =
    let all : AreSourcesTo times reached (length times) order = subst (λ (n : ℕ). AreSourcesTo times reached n order) end are in
    record { each = all.each; all = all.all }

module _ (times : List ℕ) (reached : List Bool) (listed order : List Death) (below : All (λ t. t < 2 ^ 64) times) (are : AreSources times reached listed) (same : IsPermutation listed order) where
  time_at : (s : Death) → Contains order s → IsLeftRank (length times) reached s.object × (s.time ≡ get_or times (s.object - 1) 0)
  time_at s c = are.each s (Contains-permutation order listed s (IsPermutation-sym listed order same) c)

  time_small : (s : Death) → Contains order s → s.time < 2 ^ 64
  time_small s c =
      let one = (time_at s c).0.one in
      let first = one.0 in
      let last = one.1 in
      omega (arith, (time_at s c).1, below (s.object - 1) 0 (omega (arith, first, last)))

  pub order_is : IsNonDecreasingBy (λ (s : Death). 2 ^ 64 - 1 - s.time) order → IsOrder (IsLeftRank (length times) reached) times order
  order_is rises = record {
    each = λ s c. (time_at s c).0;
    all = λ rank left.
        let r = are.all rank left in
        let c = Contains-permutation listed order r.0 same r.1 in
        (c.0, c.1, λ d. ap (λ (z : Death). z.object) (get_or_default order c.0 d r.0 c.1 ∙ c.2) ∙ r.2);
    falls = λ i j d le lt.
        let s = Contains-get_or order i d (omega arith) in
        let t = Contains-get_or order j d lt in
        omega (arith, (time_at (get_or order i d) s).1, time_small (get_or order i d) s, (time_at (get_or order j d) t).1, time_small (get_or order j d) t, rises i j d le lt);
  }
