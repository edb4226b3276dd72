use Rattle.std.proofs.Common.{ℕ, arith, rules}
use Rattle.std.proofs.lemmas.List.Sorted.{IsNonDecreasingBy-from_sort_by_key, sum_by-IsPermutation}
use Rattle.et_replay.specs.Lives.{size_below}
use Rattle.et_replay.proofs.sizes.Sizes.begin.Goals as goal

pub returns-clause-sorted : goal.returns-clause-sorted
returns-clause-sorted c = IsNonDecreasingBy-from_sort_by_key (λ (p : ℕ × ℕ). p.0) c.sort_by_key.new.self.items c.in_ok-sort_by_key.ensures.sorted (λ a r f k. search rules)

pub returns-clause-fits : goal.returns-clause-fits
returns-clause-fits c = let e = sum_by-IsPermutation (λ (p : ℕ × ℕ). p.1) c.args.sizes.items c.sort_by_key.new.self.items c.sort_by_key.ensures.permutation in omega (arith, e, c.requires.fits)

pub returns-clause-same : goal.returns-clause-same
returns-clause-same c = λ limit. sum_by-IsPermutation (size_below limit) c.args.sizes.items c.sort_by_key.new.self.items c.sort_by_key.ensures.permutation
