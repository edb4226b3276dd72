use Rattle.std.proofs.Common.{refl}
use Rattle.et_command.specs.Command as words
use Rattle.et_replay.specs.Curve.{curve_text}
use Rattle.et_files.specs.Loaded.{file_bytes, most_of_trace, IsTraceOf}
use Rattle.et_top.proofs.AnswerLemmas.{text_answers, text_refused}
use Rattle.et_top.proofs.commands.curve.Goals as goal

pub returns : goal.returns
returns g c kinds visits =
    text_answers g.F.Files g.O.Sink _ _ kinds (words.Curve c.args.path.now) c.args.path.now refl (λ held found. IsTraceOf (file_bytes most_of_trace (held c.args.path.now)) found) (λ reached lines. curve_text lines) (λ held d h. h) _ _ visits c.in_ok-curve.curve c.put.result _ c.written.ensures c.put.ensures.write c.in_ok-curve.ensures.loads.read
    (λ held told found is.
    let t = c.in_ok-curve.ensures.loads.tells held told found is in
    (t.0, t.1, λ reached decides. (c.put.ensures.ok t.0 t.2.good t.2.followed, c.put.ensures.err t.0 t.2.good t.2.followed)))

pub returns-in_err-curve : goal.returns-in_err-curve
returns-in_err-curve g c kinds visits = text_refused g.F.Files g.O.Sink _ _ kinds (words.Curve c.args.path.now) c.args.path.now refl (λ held found. IsTraceOf (file_bytes most_of_trace (held c.args.path.now)) found) (λ reached lines. curve_text lines) (λ held d h. h) _ visits c.in_err-curve.field-0.0 c.from_residual.result c.from_residual.ensures.1 c.in_err-curve.ensures.loads.read c.in_err-curve.ensures.loads.tells

pub put-requires : goal.put-requires
put-requires g c = let t = c.in_ok-curve.ensures.trace in (t.0, t.1.good, t.1.followed)
