use Rattle.std.proofs.Common.{◌≡◌, ◌∙◌, List, ℕ, ap, subst}
use Rattle.std.specs.Prelude.{OnOk, OnErr, reverse}
use Rattle.std.specs.List.{flat_map}
use Rattle.std.proofs.lemmas.List.{reverse-reverse}
use Rattle.et_base.specs.declared.line.TraceLine.{TraceLine}
use Rattle.et_io.specs.Sink.{with_more, TakesPrefix}
use Rattle.et_text.specs.Rules.{IsGoodTrace}
use Rattle.et_replay.specs.Curve.{curve_events, curve_text}
use Rattle.et_replay.specs.declared.curve.Curve.{Curve}
use Rattle.et_replay.specs.Kept.{IsCurveOf}
use Rattle.et_replay.specs.Lives.{row_by}
use Rattle.et_replay.proofs.Rows.{give_rows, rows_are}
use Rattle.et_replay.proofs.curve.Curve.put.Goals as goal

-- the events that are kept are those of the rows
events_of : (lines : List TraceLine) (curve : Curve) (events : List ℕ) → IsCurveOf curve (reverse lines) → events ≡ curve.events.items → events ≡ curve_events lines
events_of lines curve events kept is = is ∙ (kept.events ∙ ap (λ (t : List TraceLine). curve_events t) (reverse-reverse lines))

-- .. and the rows are the curve
rows_of : (lines : List TraceLine) (curve : Curve) (events : List ℕ) → IsGoodTrace lines → IsCurveOf curve (reverse lines) → events ≡ curve.events.items → flat_map (row_by curve.lives.born.items curve.lives.died.items) events ≡ curve_text lines
rows_of lines curve events good kept is = rows_are good.version lines curve.lives.born.items curve.lives.died.items events good.good.fine kept.born kept.died (events_of lines curve events kept is)

pub put_rows-requires : goal.put_rows-requires
put_rows-requires g c =
    let r = c.requires in
    let s = c.args.self in
    give_rows r.1.version r.0 s.lives.born.items s.lives.died.items c.deref.result.now r.1.good.fine r.2.born r.2.died (events_of r.0 s c.deref.result.now r.2 c.deref.ensures.value)

pub returns-clause-ok : goal.returns-clause-ok
returns-clause-ok g c = λ lines good kept.
    subst (λ (t : List ℕ). OnOk c.put_rows.result (g.O.Sink.taken c.put_rows.new.sink ≡ with_more (g.O.Sink.taken c.args.sink.now) t))
    (rows_of lines c.args.self c.deref.result.now good kept c.deref.ensures.value) c.put_rows.ensures.ok

pub returns-clause-err : goal.returns-clause-err
returns-clause-err g c = λ lines good kept.
    subst (λ (t : List ℕ). OnErr c.put_rows.result (TakesPrefix (g.O.Sink.taken c.args.sink.now) (g.O.Sink.taken c.put_rows.new.sink) t))
    (rows_of lines c.args.self c.deref.result.now good kept c.deref.ensures.value) c.put_rows.ensures.err
