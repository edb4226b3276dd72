use Rattle.std.proofs.Common.{ℕ, ◌==◌, ◌&&◌, sym}
use Rattle.std.proofs.lemmas.List.Sorted.{list_any-IsPermutation}
use Rattle.et_graph.proofs.pairs.Cut.new.Goals as goal

pub returns : goal.returns
returns c = λ p. sym (list_any-IsPermutation (λ (q : ℕ × ℕ). (q.0 == p.0) && (q.1 == p.1)) _ _ c.sort_unstable.ensures.permutation)
