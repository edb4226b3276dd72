use Rattle.std.proofs.Common.{ℕ, suc, ◌+◌, ◌≤◌, ◌≡◌, Bool, List, map, arith, subst}
use Rattle.et_base.specs.declared.value.End.{End}
use Rattle.et_graph.specs.Graph.{Graph}
use Rattle.et_program.specs.Entries.{Linked}
use Rattle.et_program.specs.Loaded.{LoadedClass, loaded_class}
use Rattle.et_state.specs.declared.options.Options.{Options}
use Rattle.et_event.specs.Start.{start_records}
use Rattle.et_history.specs.Histories.{whole_picked, HistoryComesTo, IsHistory, IsHistoryTo}
use Rattle.et_history.specs.Slots.{told_by}
use Rattle.et_history.specs.Whole.{whole_start}
use Rattle.et_history.specs.programs.Programs.{KeepRules}
use Rattle.et_theorems.specs.traces.Snapshots.{IsEndedRun}
use Rattle.et_theorems.proofs.traces.Shown.{Facts, objects_are, out_content, slots_are, statics_are, target_lives, static_lives}
use Rattle.et_theorems.proofs.snapshot_laws.snapshots_show_states.Goals as goal

facts : (c : goal.After-files_keep_rules) (reached : Graph → ℕ → Bool) (p : Linked) (options : Options) (pick : ℕ → ℕ) (last : ℕ) (end : End) → IsEndedRun reached p options pick last end → Facts reached p options pick last
facts c reached p options pick last end run =
    let is = run.program in
    let runs : IsHistory reached p options = record { decides = run.decides; run = is.run; options_are = run.options_are } in
    let up : (n : ℕ) → n ≤ last → IsHistoryTo reached p options pick n = λ n le. record { is = runs; comes = λ k lt. run.last_is.first k (omega (arith, le, lt)) } in
    let kept = (c.histories_tell_the_same.ensures.ends reached p options pick last end runs).1 run.last_is in
    let goes_kept : (n : ℕ) → n ≤ last → HistoryComesTo reached p options pick n = λ n le k lt. kept.first k (omega (arith, le, lt)) in
    record {
      knows = record {
        first = λ o some within. c.objects_are_reached_as_made.ensures.first reached p options pick o run.decides some within;
        told = λ n within. c.allocations_are_told.ensures reached p options pick n (up n within) is.strings is.arguments;
        here = λ n m o within h. c.nothing_is_freed.ensures.here reached p options pick n m o (up (n + m) within) h;
        stays = λ n m o x within h. c.nothing_is_freed.ensures.reported reached p options pick n m o x (up (n + m) within) h;
        all = λ n o within some below. c.nothing_is_freed.ensures.all reached p options pick n o (up n within) some below;
        gone = λ n o within. c.nothing_is_freed.ensures.gone reached p options pick n o (up n within);
        same = λ n within. c.histories_tell_the_same.ensures.same reached p options pick n runs (goes_kept n within);
      };
      told_is = λ e o i le place other. c.records_tell_slots.ensures.told reached p options pick e o i (up e le) is.strings is.cause place other;
      out_is = λ e i le out. c.records_tell_slots.ensures.out reached p options pick e i (up e le) is.strings is.cause out;
      events_are = λ e le. c.records_tell_slots.ensures.events reached p options pick e (up e le) is.strings;
      unreached = λ e o i le some within out.
          let one : e + 1 ≡ suc e = omega arith in
          subst (λ (k : ℕ). told_by reached (whole_picked p options pick) (whole_start p) (start_records p) k o i ≡ told_by reached (whole_picked p options pick) (whole_start p) (start_records p) e o i) one
          (c.records_tell_slots.ensures.unreached reached p options pick e o i (up (e + 1) (omega (arith, le))) some within out);
    }

pub returns-clause-objects : goal.returns-clause-objects
returns-clause-objects c reached p options pick e last end run le = objects_are reached p options pick last end run.decides (facts c reached p options pick last end run) e le

pub returns-clause-slots : goal.returns-clause-slots
returns-clause-slots c reached p options pick e last o i end run le lives = slots_are reached p options pick last end run.decides (facts c reached p options pick last end run) e le o i lives

pub returns-clause-statics : goal.returns-clause-statics
returns-clause-statics c reached p options pick e last i end run le other = statics_are reached p options pick last end run.decides (facts c reached p options pick last end run) e le i other

pub returns-clause-out : goal.returns-clause-out
returns-clause-out c reached p options pick e last i end run le out = out_content reached p options pick last end run.decides (facts c reached p options pick last end run) e le i out

pub returns-clause-targets : goal.returns-clause-targets
returns-clause-targets c reached p options pick e last o i target end run le lives is some = target_lives reached p options pick last end run.decides (facts c reached p options pick last end run) e o i target le lives is some

pub returns-clause-static_targets : goal.returns-clause-static_targets
returns-clause-static_targets c reached p options pick e last i target end run le is some = static_lives reached p options pick last end run.decides (facts c reached p options pick last end run) e i target le is some

pub returns-clause-linked : goal.returns-clause-linked
returns-clause-linked c p tabled is =
    let files : List LoadedClass = map loaded_class is.classes in
    let rules : KeepRules files = c.files_keep_rules.ensures is.classes is.of_files in
    let run = c.linked_programs_run_soundly.ensures p tabled is in
    record {
      run = run;
      strings = c.programs_have_sizes.ensures.strings files p is.program;
      arguments = c.programs_have_sizes.ensures.arguments files p rules.names is.program;
      cause = c.programs_have_sizes.ensures.cause files p is.program run.runnable;
    }
