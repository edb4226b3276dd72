use Rattle.std.proofs.Common.{Some, None, sym, ap, ◌∙◌}
use Rattle.et_class.specs.Operands.{Shape}
use Rattle.et_program.specs.Resolved.{shown_names}
use Rattle.et_program.proofs.ShapeLemmas.{kept_more, nothing_there, shape_there}
use Rattle.et_program.proofs.shapes.pool_shapes.Goals as goal
use Rattle.et_program.proofs.shapes.pool_shapes.Goals.{in-Some+in_ok-shape-in-Some+in-Some-2+in_ok-new-in-Some-2+in_ok-push-in-Some-2, in-Some+in_ok-shape-in-Some+in-None-2+in_ok-push-in-None-2, in-None+in_ok-push-in-None}

pub loop-index-preserved : goal.loop-index-preserved
loop-index-preserved c = elim c.match-member_at.branch [
  | in-Some+in_ok-shape-in-Some+in-Some-2+in_ok-new-in-Some-2+in_ok-push-in-Some-2 w ↦
      kept_more c.args.pool.now.slots c.loop-index.index c.loop-index.shapes.items c.match-member_at.shapes.items (Some w.in_ok-new-in-Some-2.field-0) (ap (λ v. v.items) w.shapes-is ∙ w.in_ok-push-in-Some-2.ensures.items)
      (shape_there c.args.pool.now.slots c.loop-index.index (shown_names w.in-Some.member) (Some w.in_ok-new-in-Some-2.field-0) w.in-Some.ensures (ap (λ (s : Shape). Some s) w.in_ok-new-in-Some-2.ensures.ok ∙ (sym w.in-Some-2.is ∙ w.in_ok-shape-in-Some.ensures))) c.loop-index.invariant
  | in-Some+in_ok-shape-in-Some+in-None-2+in_ok-push-in-None-2 w ↦
      kept_more c.args.pool.now.slots c.loop-index.index c.loop-index.shapes.items c.match-member_at.shapes.items None (ap (λ v. v.items) w.shapes-is ∙ w.in_ok-push-in-None-2.ensures.items)
      (shape_there c.args.pool.now.slots c.loop-index.index (shown_names w.in-Some.member) None w.in-Some.ensures (sym w.in-None-2.is ∙ w.in_ok-shape-in-Some.ensures)) c.loop-index.invariant
  | in-None+in_ok-push-in-None w ↦
      kept_more c.args.pool.now.slots c.loop-index.index c.loop-index.shapes.items c.match-member_at.shapes.items None (ap (λ v. v.items) w.shapes-is ∙ w.in_ok-push-in-None.ensures.items)
      (nothing_there c.args.pool.now.slots c.loop-index.index w.in-None.ensures) c.loop-index.invariant
]
