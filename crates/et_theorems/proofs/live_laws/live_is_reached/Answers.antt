use Rattle.std.proofs.Common.{ℕ, ◌+◌, ◌≤◌, List, ◌++◌, map, arith}
use Rattle.et_base.specs.declared.line.TraceLine.{TraceLine}
use Rattle.et_program.specs.Loaded.{LoadedClass, loaded_class}
use Rattle.et_state.specs.History.{deaths, flush_lines, how_of, lines_to}
use Rattle.et_state.specs.Options.{pick_of}
use Rattle.et_event.specs.Start.{start_records}
use Rattle.et_text.specs.Ranges.{header_version}
use Rattle.et_history.specs.Histories.{HistoryComesTo, IsHistoryTo}
use Rattle.et_history.specs.Whole.{whole_setting, whole_start}
use Rattle.et_theorems.proofs.traces.CurveEvents.{curve_within}
use Rattle.et_theorems.proofs.traces.Reported.{Knows}
use Rattle.et_theorems.proofs.traces.LiveReached.{live_is}
use Rattle.et_theorems.proofs.live_laws.live_is_reached.Goals as goal

pub returns-clause-live : goal.returns-clause-live
returns-clause-live c reached p options e last end runs plain arguments is le =
    let pick : ℕ → ℕ = pick_of options.schedule in
    let up : (n : ℕ) → n ≤ last → IsHistoryTo reached p options pick n = λ n le. record { is = runs; comes = λ k lt. is.first k (omega (arith, le, lt)) } in
    let kept = (c.histories_tell_the_same.ensures.ends reached p options pick last end runs).1 is in
    let goes_kept : (n : ℕ) → n ≤ last → HistoryComesTo reached p options pick n = λ n le k lt. kept.first k (omega (arith, le, lt)) in
    let knows : Knows reached p options pick last = record {
      first = λ o some within. c.objects_are_reached_as_made.ensures.first reached p options pick o runs.decides some within;
      told = λ n within. c.allocations_are_told.ensures reached p options pick n (up n within) plain arguments;
      here = λ n m o within h. c.nothing_is_freed.ensures.here reached p options pick n m o (up (n + m) within) h;
      stays = λ n m o x within h. c.nothing_is_freed.ensures.reported reached p options pick n m o x (up (n + m) within) h;
      all = λ n o within some below. c.nothing_is_freed.ensures.all reached p options pick n o (up n within) some below;
      gone = λ n o within. c.nothing_is_freed.ensures.gone reached p options pick n o (up n within);
      same = λ n within. c.histories_tell_the_same.ensures.same reached p options pick n runs (goes_kept n within);
    } in
    live_is reached p options pick last end runs.decides knows e le

pub returns-clause-events : goal.returns-clause-events
returns-clause-events c reached p options e last end runs able is has =
    let good = c.traces_are_good.ensures.good reached p options (pick_of options.schedule) last end runs able is in
    let lines : List TraceLine = lines_to reached (whole_setting p options) (whole_start p) (start_records p) last in
    let flush : List TraceLine = flush_lines last (deaths reached (whole_setting p options) (whole_start p) (start_records p) last) in
    curve_within (header_version options.format) (lines ++ flush) last (how_of end) e good has

pub returns-clause-linked : goal.returns-clause-linked
returns-clause-linked c p tabled is =
    let files : List LoadedClass = map loaded_class is.classes in
    let rules = c.files_keep_rules.ensures is.classes is.of_files in
    let good = c.traces_are_good.ensures.linked p tabled is in
    (good.0, c.programs_have_sizes.ensures.strings files p is.program, c.programs_have_sizes.ensures.arguments files p rules.names is.program, good.1)
