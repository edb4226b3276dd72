use Rattle.std.proofs.Common.{◌<◌, length, sym, ◌∙◌, subst, true≢false, below_more, arith}
use Rattle.et_hierarchy.specs.Links.{IsAncestor}
use Rattle.et_hierarchy.proofs.Marks.{marked_test}
use Rattle.et_hierarchy.proofs.Sortings.{done_free}
use Rattle.et_hierarchy.proofs.BelowTable.{cycle_down}
use Rattle.et_hierarchy.proofs.search.first_among.Goals as goal

pub is_done-requires : goal.is_done-requires
is_done-requires c = omega (arith, c.requires.sorted.done_length)

pub loop-k-preserved-then-is_done : goal.loop-k-preserved-then-is_done
loop-k-preserved-then-is_done c =
    below_more (λ j. IsAncestor c.args.table.now j j → ⊥) _ c.loop-k.invariant (done_free c.args.table.now _ _ c.loop-k.k c.requires.sorted (sym c.is_done.ensures ∙ c.if-is_done.true))

pub loop-k-preserved-then-is_done-2 : goal.loop-k-preserved-then-is_done-2
loop-k-preserved-then-is_done-2 c =
    below_more (λ j. IsAncestor c.args.table.now j j → ⊥) _ c.loop-k.invariant
    (λ h. done_free _ _ _ c.loop-k.k c.in_ok-upward.ensures (sym c.is_done-in-loop-k.ensures ∙ c.if-is_done-2.true) (subst (λ t. IsAncestor t c.loop-k.k c.loop-k.k) (sym c.as_slice.ensures.value) (cycle_down c.args.table.now _ c.in_ok-below.ensures.turned c.loop-k.k h)))

pub loop-k-preserved : goal.loop-k-preserved
loop-k-preserved c =
    let lt : c.loop-k.k < length c.in_ok-marks.marks.items = omega (arith, c.in_ok-marks.ensures.length) in
    below_more (λ j. IsAncestor c.args.table.now j j → ⊥) _ c.loop-k.invariant
    (λ h. true≢false (sym ((c.in_ok-marks.ensures.marks c.loop-k.k).1 h) ∙ (marked_test _ _ _ lt c.index.ensures ∙ c.if-index.false)))

pub returns-then-index : goal.returns-then-index
returns-then-index c =
    let inside : c.loop-k.k < length c.in_ok-marks.marks.items = omega (arith, c.in_ok-marks.ensures.length) in
    let here : c.loop-k.k < length c.args.table.now = omega arith in
    (here, (c.in_ok-marks.ensures.marks c.loop-k.k).0 (marked_test _ _ _ inside c.index.ensures ∙ c.if-index.true), c.loop-k.invariant)

pub returns : goal.returns
returns c = λ k lt h. c.loop-k.invariant k (omega arith) h
