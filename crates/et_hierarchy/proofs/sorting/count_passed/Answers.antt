use Rattle.std.proofs.Common.{◌<◌, length, sym, ◌∙◌, ap, below_more, arith}
use Rattle.std.specs.List.{slice_index_or}
use Rattle.et_hierarchy.specs.Links.{parents_of}
use Rattle.et_hierarchy.specs.Search.{IsMarkedIn}
use Rattle.et_hierarchy.specs.Sorting.{is_done}
use Rattle.et_hierarchy.proofs.sorting.count_passed.Goals as goal

pub returns-then-not-done-parent-clause-open : goal.returns-then-not-done-parent-clause-open
returns-then-not-done-parent-clause-open c = λ lt. ap (λ v. is_done c.args.done.now v) (sym c.parent-parent.ensures) ∙ c.if-not-done-parent.true

pub loop-i-preserved : goal.loop-i-preserved
loop-i-preserved c = λ h.
    below_more (λ j. j < length (parents_of c.args.links.now) → IsMarkedIn c.args.done.now (slice_index_or (parents_of c.args.links.now) j 0)) _ (c.loop-i.invariant h)
    (λ lt. ap (λ v. is_done c.args.done.now v) (sym c.parent-parent.ensures) ∙ c.if-not-done-parent.false)

pub returns-clause-passed : goal.returns-clause-passed
returns-clause-passed c = λ h j lt inside. c.loop-i.invariant h j (omega arith) inside
