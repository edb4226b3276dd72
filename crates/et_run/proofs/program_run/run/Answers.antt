use Rattle.std.proofs.Common.{ℕ, ◌+◌, ◌≤◌, Bool, List, [], sym, subst}
use Rattle.std.specs.Prelude.{All, IfOk, OnErr}
use Rattle.std.proofs.lemmas.Result.{IfOk-weaker, on_err_weaker}
use Rattle.et_graph.specs.Graph.{Graph, Decides, nothing_made}
use Rattle.et_program.specs.Entries.{Linked}
use Rattle.et_event.specs.Start.{start_records}
use Rattle.et_state.specs.Naming.{IsNamed}
use Rattle.et_state.specs.Roots.{graph_of}
use Rattle.et_state.specs.Start.{start}
use Rattle.et_state.specs.State.{Kept}
use Rattle.et_state.specs.declared.records.Record.{Record}
use Rattle.et_loop.specs.Ends.{IsOver, IsCutOff}
use Rattle.et_loop.specs.Kept.{IsStepTo}
use Rattle.et_loop.specs.declared.options.Ran.{Ran}
use Rattle.et_loop.proofs.Going.{nothing_done}
use Rattle.et_history.specs.Histories.{IsHistory}
use Rattle.et_history.specs.Settings.{IsSoundRun, flush_visits_of, said_by, setting}
use Rattle.et_history.specs.Whole.{whole_setting, whole_start, whole_visits_of, whole_said}
use Rattle.et_history.specs.steps.Telling.{names_of_program}
use Rattle.et_run.specs.WithTexts.{state_of}
use Rattle.et_run.proofs.Starting.{first_step, records_named, told_from}
use Rattle.et_run.proofs.program_run.run.Given.{Over}
use Rattle.et_run.proofs.program_run.run.Goals.{In-Ok}
use Rattle.et_run.proofs.program_run.run.Goals as goal

pub run_guest-requires-clause-first : goal.run_guest-requires-clause-first
run_guest-requires-clause-first g c = subst (λ (s : Kept). IsStepTo nothing_made (graph_of s) []) (sym c.in-Ok.ensures.state) (first_step c.args.program.now)

pub run_guest-requires-clause-sound : goal.run_guest-requires-clause-sound
run_guest-requires-clause-sound g c =
    subst (λ (p : Linked). IsSoundRun p (state_of c.in-Ok.first.guest)) (sym c.of-named.ensures)
    (subst (λ (s : Kept). IsSoundRun c.args.program.now s) (sym c.in-Ok.ensures.state) (c.linked_programs_run_soundly.ensures c.args.program.now c.is_linked.ensures.tabled c.is_linked.ensures.linked))

pub run_guest-requires-clause-named : goal.run_guest-requires-clause-named
run_guest-requires-clause-named g c =
    subst (λ (p : Linked). All (IsNamed (names_of_program p)) c.in-Ok.first.made) (sym c.of-named.ensures)
    (subst (λ (rs : List Record). All (IsNamed (names_of_program c.args.program.now)) rs) (sym c.in-Ok.ensures.records) (records_named c.args.program.now c.is_linked.ensures.tabled))

-- the program runs soundly
runs : (g : Over) (c : In-Ok g) (reached : Graph → ℕ → Bool) → Decides reached → IsHistory reached c.args.program.now c.args.options.now
runs g c reached decides = record { decides = decides; run = c.linked_programs_run_soundly.ensures c.args.program.now c.is_linked.ensures.tabled c.is_linked.ensures.linked; options_are = c.requires.options }

-- what holds over what the machine keeps holds of the whole history
pub returns-clause-over : goal.returns-clause-over
returns-clause-over g c reached decides =
    let p = c.args.program.now in
    let options = c.args.options.now in
    let so = runs g (goal.at.returns-clause-over g c).In-Ok reached decides in
    let of : Linked → Kept → List Record → Ran → Type 0 = λ q s made. IsOver reached (setting q options) (said_by q) flush_visits_of s made (g.O.Sink.taken c.args.trace.now) (g.O.Sink.taken c.run_guest.new.trace) (g.P.Sink.taken c.args.printed.now) (g.P.Sink.taken c.run_guest.new.printed) c.args.visits.now c.run_guest.new.visits in
    IfOk-weaker c.run_guest.result (of p (start p) (start_records p)) (IsOver reached (whole_setting p options) (whole_said (said_by p)) whole_visits_of (whole_start p) (start_records p) (g.O.Sink.taken c.args.trace.now) (g.O.Sink.taken c.run_guest.new.trace) (g.P.Sink.taken c.args.printed.now) (g.P.Sink.taken c.run_guest.new.printed) c.args.visits.now c.run_guest.new.visits)
    (λ ran over. record {
      trace = (c.traces_are_the_same.ensures.trace reached p options ran _ _ so).0 over.trace;
      visits = subst (λ (n : ℕ). c.run_guest.new.visits ≤ c.args.visits.now + n) (c.traces_are_the_same.ensures.visits reached p options ran.event ran.end so over.trace.ends) over.visits;
      said = c.histories_say_the_same.ensures.said reached p options (said_by p) ran _ _ so over.said;
    })
    (told_from (λ q s made. IfOk c.run_guest.result (of q s made)) c.of-named.ensures c.in-Ok.ensures.state c.in-Ok.ensures.records (c.run_guest.ensures.over reached decides))

pub returns-clause-cut_off : goal.returns-clause-cut_off
returns-clause-cut_off g c reached decides =
    let p = c.args.program.now in
    let options = c.args.options.now in
    let so = runs g (goal.at.returns-clause-cut_off g c).In-Ok reached decides in
    let of : Linked → Kept → List Record → Type 0 = λ q s made. IsCutOff reached (setting q options) (said_by q) flush_visits_of s made (g.O.Sink.taken c.args.trace.now) (g.O.Sink.taken c.run_guest.new.trace) (g.P.Sink.taken c.args.printed.now) (g.P.Sink.taken c.run_guest.new.printed) c.args.visits.now c.run_guest.new.visits in
    on_err_weaker c.run_guest.result
    (λ (cut : of p (start p) (start_records p)). record {
      prefix = (c.traces_are_the_same.ensures.prefix reached p options _ _ so).0 cut.prefix;
      cut = c.traces_are_the_same.ensures.cut reached p options _ _ c.args.visits.now c.run_guest.new.visits so cut.cut;
      said_prefix = c.histories_say_the_same.ensures.prefix reached p options (said_by p) _ _ so cut.said_prefix;
      said_cut = c.histories_say_the_same.ensures.cut reached p options (said_by p) _ _ c.args.visits.now c.run_guest.new.visits so cut.said_cut;
    })
    (told_from (λ q s made. OnErr c.run_guest.result (of q s made)) c.of-named.ensures c.in-Ok.ensures.state c.in-Ok.ensures.records (c.run_guest.ensures.cut_off reached decides))

-- want of memory in the first state
pub returns-in_default-clause-cut_off : goal.returns-in_default-clause-cut_off
returns-in_default-clause-cut_off g c reached decides = nothing_done
