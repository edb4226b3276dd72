use Rattle.std.proofs.Common.{refl, sym, subst}
use Rattle.et_command.specs.Command as words
use Rattle.et_convert.specs.Conversions.{converted_bytes}
use Rattle.et_convert.specs.Spellings.{SpellsTrace}
use Rattle.et_files.specs.Loaded.{file_bytes, most_of_trace, IsTraceOf}
use Rattle.et_top.proofs.AnswerLemmas.{text_answers, text_refused}
use Rattle.et_top.proofs.commands.convert.Goals as goal

pub returns : goal.returns
returns g c kinds visits =
    text_answers g.F.Files g.O.Sink _ _ kinds (words.Convert c.args.path.now) c.args.path.now refl (λ held found. IsTraceOf (file_bytes most_of_trace (held c.args.path.now)) found) (λ reached lines. converted_bytes lines) (λ held d h. h) _ _ visits c.in_ok-bytes.bytes c.convert_bytes.result _ c.written.ensures c.convert_bytes.ensures.write c.in_ok-bytes.ensures.loads.read
    (λ held told found is.
    let t = c.in_ok-bytes.ensures.loads.tells held told found is in
    let s = subst (SpellsTrace t.0) (sym c.deref.ensures.value) t.2 in
    (t.0, t.1, λ reached decides. (c.convert_bytes.ensures.ok t.0 s, c.convert_bytes.ensures.err t.0 s)))

pub returns-in_err-bytes : goal.returns-in_err-bytes
returns-in_err-bytes g c kinds visits = text_refused g.F.Files g.O.Sink _ _ kinds (words.Convert c.args.path.now) c.args.path.now refl (λ held found. IsTraceOf (file_bytes most_of_trace (held c.args.path.now)) found) (λ reached lines. converted_bytes lines) (λ held d h. h) _ visits c.in_err-bytes.field-0.0 c.from_residual.result c.from_residual.ensures.1 c.in_err-bytes.ensures.loads.read c.in_err-bytes.ensures.loads.tells

pub convert_bytes-requires : goal.convert_bytes-requires
convert_bytes-requires g c = let t = c.in_ok-bytes.ensures.trace in record { trace = (t.0, subst (SpellsTrace t.0) (sym c.deref.ensures.value) t.1, t.2) }
