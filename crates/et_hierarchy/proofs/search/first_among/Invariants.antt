use Rattle.std.proofs.Common.{ℕ, ◌<◌}
use Rattle.et_hierarchy.specs.Links.{IsAncestor}
use Rattle.et_hierarchy.proofs.search.first_among.Given as goal

abbrev pub invariant-loop-k : goal.invariant-loop-k
invariant-loop-k l = (j : ℕ) → j < l.k → IsAncestor l.table j j → ⊥
