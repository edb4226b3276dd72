use Rattle.std.proofs.Common.{◌≡◌, refl, sym, subst, ◌∙◌, List, Result}
use Rattle.et_base.specs.declared.line.TraceLine.{TraceLine}
use Rattle.et_command.specs.Command as words
use Rattle.et_snapshot.specs.Snapshot.{snapshot_text}
use Rattle.et_files.specs.Faults.{Fault}
use Rattle.et_files.specs.Loaded.{file_bytes, most_of_trace, IsTraceOf, reaching}
use Rattle.et_io.specs.Faults.{Rose}
use Rattle.et_files.specs.Told.{IsCause, cause_of}
use Rattle.et_top.proofs.AnswerLemmas.{text_answers, text_refused}
use Rattle.et_top.proofs.commands.snapshot.Goals as goal

pub returns : goal.returns
returns g c kinds visits =
    text_answers g.F.Files g.O.Sink _ _ kinds (words.Snapshot c.args.path.now c.args.event) c.args.path.now refl (λ held found. (trace : Result (List TraceLine) Fault) × IsTraceOf (file_bytes most_of_trace (held c.args.path.now)) trace × (found ≡ reaching c.args.event trace)) (λ reached lines. snapshot_text lines c.args.event) (λ held d h. (reaching c.args.event h.0, (h.0, h.1, refl), h.2)) _ _ visits c.in_ok-trace.trace c.snapshot_lines.result _ c.written.ensures c.snapshot_lines.ensures.write c.in_ok-trace.ensures.read
    (λ held told found is. (c.in_ok-trace.trace, is.2 ∙ c.in_ok-trace.ensures.tells held told is.0 is.1, λ reached decides. (c.snapshot_lines.ensures.ok, c.snapshot_lines.ensures.err)))

pub returns-in_err-trace : goal.returns-in_err-trace
returns-in_err-trace g c kinds visits = text_refused g.F.Files g.O.Sink _ _ kinds (words.Snapshot c.args.path.now c.args.event) c.args.path.now refl (λ held found. (trace : Result (List TraceLine) Fault) × IsTraceOf (file_bytes most_of_trace (held c.args.path.now)) trace × (found ≡ reaching c.args.event trace)) (λ reached lines. snapshot_text lines c.args.event) (λ held d h. (reaching c.args.event h.0, (h.0, h.1, refl), h.2)) _ visits c.in_err-trace.field-0.0 c.from_residual.result c.from_residual.ensures.1 c.in_err-trace.ensures.read
    (λ held told found is. subst (λ f. IsCause (Rose (g.F.Files.faults c.args.files.now) (g.F.Files.faults c.load_trace_to.new.files)) f (cause_of c.in_err-trace.field-0.0)) (sym is.2) (c.in_err-trace.ensures.tells held told is.0 is.1))
