use Rattle.std.proofs.Common.{sym, subst}
use Rattle.et_event.specs.declared.rows.Row.{Row}
use Rattle.et_event.specs.declared.rows.Row.TheVariants as rows
use Rattle.et_event.specs.FrameSteps.{StepsRunning}
use Rattle.et_event.specs.Plain.{frame_after}
use Rattle.et_event.specs.Sites.{Site}
use Rattle.et_event.proofs.SiteAnswers.{same_site}
use Rattle.et_ops.specs.declared.ends.PlainEnd.{PlainEnd}
use Rattle.et_ops.specs.Plain.{RunsPlain}
use Rattle.et_ops.proofs.Ending.{frame_runs}
use Rattle.et_ops.proofs.lifted.plain_step.Goals as goal

pub returns-in-Frame : goal.returns-in-Frame
returns-in-Frame c =
    let place = c.args.place.now in
    let r = c.args.running.now in
    let r' = c.frame_event.new.running in
    let same = same_site place.site c.instr.result.now c.next.result c.code.result.now c.instr.ensures c.next.ensures c.code.ensures in
    let steps = subst (λ (at : Site). StepsRunning (frame_after at c.in-Frame.row r.frame) c.frame_event.result r r') same (c.frame_event.ensures place.site.pool place.site.class) in
    let runs = frame_runs place.site c.in-Frame.row c.frame_event.result r r' steps in
    subst (λ (row : Row). RunsPlain place.site row c.end_of.result r r') (sym c.in-Frame.is)
    (subst (λ (end : PlainEnd). RunsPlain place.site (rows.Frame c.in-Frame.row) end r r') (sym c.end_of.ensures) runs)
