use Rattle.std.proofs.Common.{ℕ, ◌+◌, ◌≤◌, ◌∙◌, ap, subst}
use Rattle.std.specs.Prelude.{List}
use Rattle.et_base.specs.declared.value.End.{End}
use Rattle.et_binary.specs.Formats.{trace_bytes}
use Rattle.et_event.specs.Start.{start_records}
use Rattle.et_history.specs.Whole.{whole_start, whole_visits_of}
use Rattle.et_io.specs.Sink.{with_more}
use Rattle.et_loop.specs.Visits.{allowed_visits}
use Rattle.et_state.specs.History.{trace_of}
use Rattle.et_top.specs.Top.{status_of_end}
use Rattle.et_theorems.specs.Runs.{setting_of}
use Rattle.et_theorems.proofs.theorems.whole_outputs_are_traces.Goals as goal

pub returns-clause-bytes : goal.returns-clause-bytes
returns-clause-bytes c r before after old new answer is w =
    let one = c.programs_are_linked.ensures.one_end r w.ran.event w.ran.end is w.wrote.ends in
    let trace : ℕ → End → List ℕ = λ last end. trace_bytes r.options.format (trace_of r.reached (setting_of r) (whole_start r.program) (start_records r.program) last end) in
    w.wrote.taken ∙ (ap (λ last. with_more before (trace last w.ran.end)) one.0 ∙ ap (λ end. with_more before (trace r.last end)) one.1)

pub returns-clause-answer : goal.returns-clause-answer
returns-clause-answer c r before after old new answer is w =
    let one = c.programs_are_linked.ensures.one_end r w.ran.event w.ran.end is w.wrote.ends in
    w.ended ∙ ap status_of_end one.1

pub returns-clause-visits : goal.returns-clause-visits
returns-clause-visits c r before after old new answer is w =
    let one = c.programs_are_linked.ensures.one_end r w.ran.event w.ran.end is w.wrote.ends in
    subst (λ last. new ≤ old + allowed_visits r.reached (setting_of r) whole_visits_of (whole_start r.program) (start_records r.program) last) one.0 w.visits
