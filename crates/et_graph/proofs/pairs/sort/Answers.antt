use Rattle.std.proofs.Common.{ℕ, rules}
use Rattle.std.proofs.lemmas.List.Sorted.{IsNonDecreasingBy-from_sort_by_key, Contains-permutation, IsPermutation-sym}
use Rattle.et_graph.proofs.pairs.sort.Goals as goal

pub returns-clause-sorted : goal.returns-clause-sorted
returns-clause-sorted c = IsNonDecreasingBy-from_sort_by_key (λ (p : ℕ × ℕ). p.0) _ c.sort_unstable_by_key.ensures.sorted (λ a r q k. search rules)

pub returns-clause-same : goal.returns-clause-same
returns-clause-same c = λ p. (
  Contains-permutation _ _ p (IsPermutation-sym _ _ c.sort_unstable_by_key.ensures.permutation),
  Contains-permutation _ _ p c.sort_unstable_by_key.ensures.permutation,
)
