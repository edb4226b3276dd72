use Rattle.std.proofs.Common.{ℕ, List, ap, ◌∙◌}
use Rattle.std.specs.List.Sorted.{IsSorted}
use Rattle.et_graph.specs.Edit.{has_pair}
use Rattle.et_graph.proofs.Cuts.{pair_cmp, found_is_there}
use Rattle.et_graph.proofs.pairs.Cut.has.Goals as goal

pub returns : goal.returns
returns c =
    let sorted : IsSorted pair_cmp c.deref.result.now = rw c.deref.ensures.value c.args.self.now.sorted in
    c.is_ok.ensures.value
    ∙ found_is_there c.deref.result.now c.args.pair.now c.binary_search.result c.binary_search.ensures.bound c.binary_search.ensures.position sorted
    ∙ ap (λ (ps : List (ℕ × ℕ)). has_pair ps c.args.pair.now) c.deref.ensures.value
