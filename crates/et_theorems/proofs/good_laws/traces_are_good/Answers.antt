use Rattle.std.proofs.Common.{List, map}
use Rattle.et_program.specs.Loaded.{LoadedClass, loaded_class}
use Rattle.et_state.specs.Start.{start}
use Rattle.et_history.specs.Settings.{IsSoundRun}
use Rattle.et_history.proofs.ShortNames.{class_names_short, method_names_short, descriptors_short}
use Rattle.et_history.specs.programs.Programs.{KeepRules}
use Rattle.et_theorems.specs.traces.Good.{IsTraceable}
use Rattle.et_theorems.proofs.traces.TraceLines.{trace_is_good}
use Rattle.et_theorems.proofs.traces.Traceable.{file_texts, names_are_apart, statics_few}
use Rattle.et_theorems.proofs.good_laws.traces_are_good.Goals as goal

pub returns-clause-good : goal.returns-clause-good
returns-clause-good c reached p options pick last end runs able is =
    let run = runs.run in
    let kept = (c.histories_tell_the_same.ensures.ends reached p options pick last end runs).1 is in
    trace_is_good reached p options pick runs able.names able.short able.few_statics
    (λ s t sound unended. c.events_tell_objects.ensures p s t sound unended run.runnable able.strings)
    (λ s t sound unended. c.events_keep_monitors.ensures p s t sound unended run.runnable)
    (λ s t sound unended. c.events_are_told.ensures p s t sound unended run.runnable)
    (λ e goes. c.histories_tell_the_same.ensures.same reached p options pick e runs goes)
    (λ e o goes above within. c.objects_are_reached_as_made.ensures.made reached p options pick e o runs.decides goes above within)
    last end kept.first is.first

pub returns-clause-linked : goal.returns-clause-linked
returns-clause-linked c p tabled is =
    let files : List LoadedClass = map loaded_class is.classes in
    let run : IsSoundRun p (start p) = c.linked_programs_run_soundly.ensures p tabled is in
    let rules : KeepRules files = c.files_keep_rules.ensures is.classes is.of_files in
    let texts = file_texts is.classes is.of_files in
    let able : IsTraceable p = record {
      names = names_are_apart files p texts rules.names is.linkable is.program;
      short = record { class_names = class_names_short p is; method_names = method_names_short p is; descriptors = descriptors_short p is };
      few_statics = statics_few files p texts rules.names is.linkable is.program;
      strings = c.programs_have_sizes.ensures.strings files p is.program;
    } in
    (run, able)
