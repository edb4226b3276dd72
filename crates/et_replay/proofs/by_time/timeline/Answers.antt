use Rattle.std.proofs.Common.{List, subst, ◌∙◌}
use Rattle.std.specs.Prelude.{reverse}
use Rattle.std.proofs.lemmas.List.{take_all}
use Rattle.et_base.specs.declared.line.TraceLine.{TraceLine}
use Rattle.et_replay.specs.Kept.{AreHappenings}
use Rattle.et_replay.proofs.by_time.timeline.Goals as goal

pub in_order-requires : goal.in_order-requires
in_order-requires c =
    let whole = take_all c.loop-line.line-index c.lines-line-items.result.now c.loop-line-test.false ∙ c.lines-line-items.ensures.value in
    (c.args.trace.now, c.lines-line-items.ensures.good, subst (λ (t : List TraceLine). AreHappenings c.loop-line.happenings (reverse t)) whole c.loop-line.invariant)
