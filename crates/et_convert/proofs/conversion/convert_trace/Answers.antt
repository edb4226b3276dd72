use Rattle.std.proofs.Common.{◌≡◌, ◌∙◌, List, ℕ, ap, subst}
use Rattle.std.specs.Prelude.{OnOk, OnErr}
use Rattle.std.specs.List.{flat_map}
use Rattle.et_base.specs.declared.line.TraceLine.{TraceLine}
use Rattle.et_io.specs.Sink.{with_more, TakesPrefix}
use Rattle.et_convert.specs.Conversions.{format_said, other_format, converted_line}
use Rattle.et_convert.proofs.Converting.{bytes_convert}
use Rattle.et_convert.proofs.conversion.convert_trace.Goals as goal

pub returns-clause-ok : goal.returns-clause-ok
returns-clause-ok g c =
    let said = c.format_said.ensures ∙ ap format_said c.lines-lines.ensures.value in
    let same = ap (λ (t : List TraceLine). flat_map (converted_line c.other_format.result) t) c.lines-lines.ensures.value ∙ bytes_convert c.records_are_packs.ensures c.other_format.result c.args.trace.now c.lines-lines.ensures.good c.requires.short (c.other_format.ensures ∙ ap other_format said) in
    subst (λ (t : List ℕ). OnOk c.put_lines.result (g.O.Sink.taken c.put_lines.new.sink ≡ with_more (g.O.Sink.taken c.args.sink.now) t)) same c.put_lines.ensures.ok

pub returns-clause-err : goal.returns-clause-err
returns-clause-err g c =
    let said = c.format_said.ensures ∙ ap format_said c.lines-lines.ensures.value in
    let same = ap (λ (t : List TraceLine). flat_map (converted_line c.other_format.result) t) c.lines-lines.ensures.value ∙ bytes_convert c.records_are_packs.ensures c.other_format.result c.args.trace.now c.lines-lines.ensures.good c.requires.short (c.other_format.ensures ∙ ap other_format said) in
    subst (λ (t : List ℕ). OnErr c.put_lines.result (TakesPrefix (g.O.Sink.taken c.args.sink.now) (g.O.Sink.taken c.put_lines.new.sink) t)) same c.put_lines.ensures.err
