use Rattle.std.proofs.Common.{◌≡◌, ℕ, ◌∙◌, List, Some, Ok, inl, inr, refl, sym, ap, subst}
use Rattle.std.specs.Prelude.{[]}
use Rattle.et_files.proofs.ReadLemmas.{bytes_there}
use Rattle.et_base.specs.declared.line.TraceLine.{TraceLine}
use Rattle.et_binary.specs.Formats.{trace_bytes}
use Rattle.et_convert.specs.Spellings.{SpellsTrace}
use Rattle.et_event.specs.Start.{start_records}
use Rattle.et_history.specs.Whole.{whole_start}
use Rattle.et_io.specs.Files.{Held}
use Rattle.et_io.specs.Sink.{with_more}
use Rattle.et_files.specs.Loaded.{file_bytes, most_of_trace, IsTraceOf}
use Rattle.et_theorems.specs.Runs.{Run, IsTraced, IsWritten, lines_of, picks_of, setting_of}
use Rattle.et_theorems.proofs.Histories.{history_of}
use Rattle.et_theorems.proofs.Formats.{spells_trace, trace_begins}
use Rattle.et_theorems.proofs.Held.{one_text}
use Rattle.et_theorems.proofs.theorems.written_traces_are_read.Goals as goal

-- what was written is the trace
whole : (c : goal.After-spelled_lists_differ) (r : Run) (later : Held) (path bytes : List ℕ) → IsTraced r → IsWritten r later path bytes → bytes ≡ trace_bytes r.options.format (lines_of r)
whole c r later path bytes is w = one_text bytes (trace_bytes r.options.format (lines_of r)) (c.whole_outputs_are_traces.ensures.bytes r (Some []) (with_more (Some []) bytes) w.old w.new w.answer is w.wrote)

pub returns-clause-bytes : goal.returns-clause-bytes
returns-clause-bytes c = whole c

-- .. and spells its lines
spells : (c : goal.After-spelled_lists_differ) (r : Run) (later : Held) (path bytes : List ℕ) → IsTraced r → IsWritten r later path bytes → SpellsTrace (lines_of r) bytes
spells c r later path bytes is w =
    let ended = c.programs_are_linked.ensures.ended r is in
    let able = c.programs_are_linked.ensures.traceable r is in
    let own = (c.traces_are_read.ensures.lines r.reached r.program r.options (picks_of r) r.last r.end (lines_of r) (history_of r ended) able is.ends).1 refl in
    subst (SpellsTrace (lines_of r)) (sym (whole c r later path bytes is w))
    (spells_trace r.options.format (lines_of r) (trace_begins r.reached (setting_of r) (whole_start r.program) (start_records r.program) r.last r.end) own)

pub returns-clause-read : goal.returns-clause-read
returns-clause-read c r later path bytes trace is w = (to, from)
  where
    there : file_bytes most_of_trace (later path) ≡ Ok bytes
    there = bytes_there most_of_trace (later path) bytes w.held w.short

    found : IsTraceOf (Ok bytes) trace → trace ≡ Ok (lines_of r)
    found (inl (kind, line, has, e)) = absurd (c.spelled_traces_have_no_fault.ensures (lines_of r) bytes kind line (spells c r later path bytes is w) has)
    found (inr (lines, other, e)) = e ∙ ap (λ (ls : List TraceLine). Ok ls) (c.spelled_lists_differ.ensures lines (lines_of r) bytes other (spells c r later path bytes is w))

    to : IsTraceOf (file_bytes most_of_trace (later path)) trace → trace ≡ Ok (lines_of r)
    to h = found (subst (λ f. IsTraceOf f trace) there h)

    from : trace ≡ Ok (lines_of r) → IsTraceOf (file_bytes most_of_trace (later path)) trace
    from e = subst (λ f. IsTraceOf f trace) (sym there) (inr (lines_of r, spells c r later path bytes is w, e))
