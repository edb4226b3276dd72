use Rattle.std.proofs.Common.{sym, ◌∙◌, below_more, arith}
use Rattle.et_hierarchy.specs.Links.{IsAncestor}
use Rattle.et_hierarchy.proofs.Sortings.{done_free}
use Rattle.et_hierarchy.proofs.search.first_on_cycle.Goals as goal

pub is_done-requires : goal.is_done-requires
is_done-requires c = omega (arith, c.in_ok-sorting.ensures.done_length)

pub loop-k-preserved : goal.loop-k-preserved
loop-k-preserved c =
    below_more (λ j. IsAncestor c.args.table.now j j → ⊥) _ c.loop-k.invariant (done_free c.args.table.now _ _ c.loop-k.k c.in_ok-sorting.ensures (sym c.is_done.ensures ∙ c.if-not-is_done.false))

pub returns : goal.returns
returns c = λ k lt h. c.loop-k.invariant k (omega arith) h
