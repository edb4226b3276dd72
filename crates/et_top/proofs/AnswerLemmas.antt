-- WHAT IS ANSWERED TO A COMMAND, of what was loaded and of what became of it.
use Rattle.std.proofs.Common.{◌≡◌, ℕ, false, Bool, List, [], ◌∷◌, map, Some, Result, Ok, Err, refl, sym, ◌∙◌, ap, subst}
use Rattle.std.specs.Prelude.{IfErr, IsErrAnd, OnOk, OnErr}
use Rattle.et_graph.specs.Graph.{Graph, Decides}
use Rattle.et_io.specs.Faults.{Rose, count_after, is_write_fault}
use Rattle.et_io.specs.Files.{Held}
use Rattle.et_io.specs.Sink.{with_more, TakesPrefix}
use Rattle.et_io.specs.declared.files.Files as reading
use Rattle.et_io.specs.declared.sink.Sink as writing
use Rattle.et_io.specs.declared.putting.RunFault.{RunFault}
use Rattle.et_program.specs.Entries.{Linked}
use Rattle.et_replay.specs.declared.model.Kind.{Kind}
use Rattle.et_state.specs.declared.options.Options.{Options}
use Rattle.et_command.specs.Command.{Asked, Trace, Run}
use Rattle.et_command.specs.Asked.{asked_by}
use Rattle.et_command.specs.declared.command.Command.{Command}
use Rattle.et_files.specs.Answered.{ReadsOne, ReadsEach}
use Rattle.et_files.specs.Faults.{Fault}
use Rattle.et_files.specs.Loaded.{IsProgramOfFiles, most_of_class}
use Rattle.et_files.specs.Reads.{ReadsInOrder}
use Rattle.et_files.specs.Refusals.{status_of}
use Rattle.et_files.specs.Status.{is_read_status, is_write_status}
use Rattle.et_files.specs.Told.{IsCause, IsFileRefusal, Tells, cause_of, is_read_cause, is_reading, status_of_result}
use Rattle.et_files.specs.declared.refusal.Refusal.{Refusal}
use Rattle.et_files.specs.declared.status.Status.{Status}
use Rattle.et_files.specs.declared.status.Status.TheVariants as status
use Rattle.et_files.proofs.FaultLemmas.{counted_as, same_count, read_status, no_write_status}
use Rattle.et_files.proofs.ReadLemmas.{one_read, reads_whole}
use Rattle.et_top.specs.Answers.{Answers}
use Rattle.et_top.specs.Paths.{paths_of, most_of}
use Rattle.et_top.specs.Runs.{defines}
use Rattle.et_top.specs.Told.{status_of_writing}
use Rattle.et_top.specs.Top.{Defined, IsAskedDefined, GivesDefined, defined_text}
use Rattle.et_top.specs.Visits.{IsBeforeRun, IsWithoutRun, IsNoTrace, HasUnread}
use Rattle.et_top.specs.declared.programs.Output.{Output}
use Rattle.et_top.specs.declared.programs.Output.TheVariants as output
use Rattle.et_top.proofs.FaultLemmas.{rose_writing, no_read_writing, no_usage_writing, no_usage_file, write_status}
use Rattle.et_top.proofs.RunLemmas.{is_run}
use Rattle.et_top.proofs.TopLemmas.{text_gives, refused_text}
use Rattle.et_top.proofs.VisitLemmas.{none_unread}

-- the command of an arm is the one that was asked for
pub of_arm : {X Y : Type 0} (F : reading.Ghosts X) (O : writing.Ghosts Y) (files files' : X) (out out' : Y) (visits visits' : ℕ) (kinds : List Kind) (x y : Command) (answer : Status)
    → x ≡ y → Answers F O files files' out out' visits visits' kinds (asked_by y) answer → Answers F O files files' out out' visits visits' kinds (asked_by x) answer
of_arm F O files files' out out' visits visits' kinds x y answer e h = subst (λ (z : Command). Answers F O files files' out out' visits visits' kinds (asked_by z) answer) (sym e) h

-- what was refused is answered by its status
refused_status : (done : Result (Unit {0}) Refusal) (r : Refusal) → IsErrAnd done (λ e. e ≡ r) → status_of_result done ≡ status_of r
refused_status (Ok done) r is = absurd is
refused_status (Err e) r is = ap status_of is

module _ {X Y : Type 0} (F : reading.Ghosts X) (O : writing.Ghosts Y) (files files' : X) (kinds : List Kind) (asked : Asked) where
  -- the files agree with what was read
  abbrev Agrees : Held → Type 0
  Agrees held = F.agrees files' (F.asked files) held

  -- WHAT WAS REFUSED BEFORE A RUN

  -- a file was refused, or could not be read, and nothing was put
  pub refused_answers : (out : Y) (visits : ℕ) (r : Refusal) (answer : Status) → answer ≡ status_of r → IsFileRefusal (cause_of r) → F.faults files' ≡ count_after (is_read_cause (cause_of r)) (F.faults files)
      → ReadsInOrder Agrees (F.asked files) (F.asked files') (most_of (Some asked)) (paths_of (Some asked)) answer
      → ((held : Held) → Agrees held → (d : Defined) → IsAskedDefined kinds (Some asked) held d → (reached : Graph → ℕ → Bool)
      → GivesDefined reached (O.taken out) (O.taken out) visits visits (Rose (F.faults files) (F.faults files')) (Rose (O.faults out) (O.faults out)) d answer)
      → Answers F O files files' out out visits visits kinds asked answer
  refused_answers out visits r answer how file faults reads gives = record {
    gives = λ held told d defined reached decides. gives held told d defined reached;
    usage = λ e. no_usage_file r file (sym how ∙ e);
    read_fault = counted_as (is_read_cause (cause_of r)) (is_read_status answer) _ _ faults (ap is_read_status how ∙ read_status r);
    write_fault = same_count (is_write_status answer) _ _ refl (ap is_write_status how ∙ no_write_status r file);
    reads = reads;
    no_visits = λ without. refl;
    no_trace = λ held told d defined none. refl;
    unread = λ few. refl;
  }

  module _ (path : List ℕ) (only : paths_of (Some asked) ≡ path ∷ []) {B : Type 0} (Found : Held → Result B Fault → Type 0) (text : (Graph → ℕ → Bool) → B → List ℕ)
      (defined_by : (held : Held) (d : Defined) → IsAskedDefined kinds (Some asked) held d → (found : Result B Fault) × Found held found × (d ≡ defined_text text found)) where
    -- the file at the path was read
    path_read : {A : Type 0} (loaded : Result A Refusal) (answer : Status) → ReadsOne F files files' path (most_of (Some asked)) loaded → ReadsInOrder Agrees (F.asked files) (F.asked files') (most_of (Some asked)) (paths_of (Some asked)) answer
    path_read loaded answer read = subst (λ paths. ReadsInOrder Agrees (F.asked files) (F.asked files') (most_of (Some asked)) paths answer) (sym only) (one_read Agrees (F.asked files) (F.asked files') path (most_of (Some asked)) answer (read.asked.0, read.asked.1))

    pub text_refused : {A : Type 0} (out : Y) (visits : ℕ) (r : Refusal) (done : Result (Unit {0}) Refusal) → IsErrAnd done (λ e. e ≡ r) → ReadsOne {A = A} F files files' path (most_of (Some asked)) (Err r)
        → ((held : Held) → Agrees held → (found : Result B Fault) → Found held found → IsCause (Rose (F.faults files) (F.faults files')) found (cause_of r))
        → Answers F O files files' out out visits visits kinds asked (status_of_result done)
    text_refused out visits r done is_refused read causes = let answer = status_of_result done in let how = refused_status done r is_refused in refused_answers out visits r answer how read.file read.faults (path_read (Err r) answer read)
        (λ held told d defined reached. let is = defined_by held d defined in refused_text reached (O.taken out) visits visits (Rose (F.faults files) (F.faults files')) (Rose (O.faults out) (O.faults out)) text is.0 r d answer is.2 (causes held told is.0 is.1) how)

    -- A TEXT THAT WAS WRITTEN, or not whole

    pub text_answers : {A : Type 0} (out out' : Y) (visits : ℕ) (a : A) (wrote : Result (Unit {0}) RunFault) (answer : Status) → answer ≡ status_of_writing wrote
        → O.faults out' ≡ count_after (is_write_fault wrote) (O.faults out) → ReadsOne F files files' path (most_of (Some asked)) (Ok a)
        → ((held : Held) → Agrees held → (found : Result B Fault) → Found held found → (b : B) × (found ≡ Ok b)
        × ((reached : Graph → ℕ → Bool) → Decides reached → OnOk wrote (O.taken out' ≡ with_more (O.taken out) (text reached b)) × OnErr wrote (TakesPrefix (O.taken out) (O.taken out') (text reached b))))
        → Answers F O files files' out out' visits visits kinds asked answer
    text_answers out out' visits a wrote answer how counted read puts = record {
      gives = λ held told d defined reached decides.
          let is = defined_by held d defined in
          let put = puts held told is.0 is.1 in
          text_gives reached (O.taken out) (O.taken out') visits visits (Rose (F.faults files) (F.faults files')) (Rose (O.faults out) (O.faults out')) text is.0 put.0 d wrote answer is.2 put.1 how (put.2 reached decides).0 (put.2 reached decides).1 (rose_writing wrote _ _ counted);
      usage = λ e. no_usage_writing wrote (sym how ∙ e);
      read_fault = counted_as false (is_read_status answer) _ _ read.faults (ap is_read_status how ∙ no_read_writing wrote);
      write_fault = counted_as (is_write_fault wrote) (is_write_status answer) _ _ counted (ap is_write_status how ∙ write_status wrote);
      reads = path_read (Ok a) answer read;
      no_visits = λ without. refl;
      no_trace = λ held told d defined none. refl;
      unread = λ few. refl;
    }

-- A PROGRAM THAT WAS RUN, or that there is none

-- the words that ask for this output of a run
abbrev pub asks_run : Output → Options → List (List ℕ) → Asked
asks_run output.Trace options paths = Trace options paths
asks_run output.Prints options paths = Run options paths

module _ (kinds : List Kind) (options : Options) (paths : List (List ℕ)) where
  run_defined : (o : Output) (held : Held) (d : Defined) → IsAskedDefined kinds (Some (asks_run o options paths)) held d → (found : Result Linked Fault) × IsProgramOfFiles (map held paths) found × (d ≡ defines o options found)
  run_defined output.Trace held d h = h
  run_defined output.Prints held d h = h

  run_without : (o : Output) (answer : Status) → IsWithoutRun (Some (asks_run o options paths)) answer → IsBeforeRun answer
  run_without output.Trace answer h = h
  run_without output.Prints answer h = h

  run_paths : (o : Output) → paths_of (Some (asks_run o options paths)) ≡ paths
  run_paths output.Trace = refl
  run_paths output.Prints = refl

  run_most : (o : Output) → most_of (Some (asks_run o options paths)) ≡ most_of_class
  run_most output.Trace = refl
  run_most output.Prints = refl

module _ {X Y : Type 0} (F : reading.Ghosts X) (O : writing.Ghosts Y) (files files' : X) (out out' : Y) (visits visits' : ℕ) (kinds : List Kind) (options : Options) (paths : List (List ℕ)) where
  all_read : (loaded : Result Linked Refusal) (answer : Status) → ReadsEach F files files' paths loaded → IfErr loaded (λ r. answer ≡ status_of r) → ReadsInOrder (F.agrees files' (F.asked files)) (F.asked files) (F.asked files') most_of_class paths answer
  all_read (Ok program) answer read refused = reads_whole _ _ _ _ _ status.Done _ refl read.in_order
  all_read (Err r) answer read is = subst (λ s. ReadsInOrder (F.agrees files' (F.asked files)) (F.asked files) (F.asked files') most_of_class paths s) (sym is) read.in_order

  -- where one wasn't asked for there is no program, and nothing was visited
  few_read : (loaded : Result Linked Refusal) → ReadsEach F files files' paths loaded → OnErr loaded (visits' ≡ visits) → HasUnread (F.asked files) (F.asked files') paths → visits' ≡ visits
  few_read (Ok program) read same few = absurd (none_unread _ _ _ _ _ read.in_order few)
  few_read (Err r) read same few = same

  no_history : (o : Output) (found : Result Linked Fault) (loaded : Result Linked Refusal) (d : Defined) → Tells (Rose (F.faults files) (F.faults files')) (λ program. program) found loaded → OnErr loaded (visits' ≡ visits) → d ≡ defines o options found → IsNoTrace d → visits' ≡ visits
  no_history o found (Ok program) d is same e none = absurd (is_run o options program (subst IsNoTrace (e ∙ ap (defines o options) is) none))
  no_history o found (Err r) d told same e none = same

  pub run_answers : (o : Output) (loaded : Result Linked Refusal) (answer : Status)
      → ((held : Held) → F.agrees files' (F.asked files) held → (found : Result Linked Fault) → IsProgramOfFiles (map held paths) found → Tells (Rose (F.faults files) (F.faults files')) (λ program. program) found loaded)
      → ReadsEach F files files' paths loaded
      → ((from to : ℕ) (found : Result Linked Fault) → Tells (Rose from to) (λ program. program) found loaded → (reached : Graph → ℕ → Bool) → Decides reached
      → GivesDefined reached (O.taken out) (O.taken out') visits visits' (Rose from to) (Rose (O.faults out) (O.faults out')) (defines o options found) answer)
      → (answer ≡ status.Usage → ⊥) → is_read_status answer ≡ is_reading loaded → O.faults out' ≡ count_after (is_write_status answer) (O.faults out) → IfErr loaded (λ r. answer ≡ status_of r)
      → (IsBeforeRun answer → visits' ≡ visits) → OnErr loaded (visits' ≡ visits)
      → Answers F O files files' out out' visits visits' kinds (asks_run o options paths) answer
  run_answers o loaded answer tells read gives usage reading writing refused no_visits still = record {
    gives = λ held told d defined reached decides.
        let is = run_defined kinds options paths o held d defined in
        subst (λ x. GivesDefined reached (O.taken out) (O.taken out') visits visits' (Rose (F.faults files) (F.faults files')) (Rose (O.faults out) (O.faults out')) x answer) (sym is.2) (gives _ _ is.0 (tells held told is.0 is.1) reached decides);
    usage = usage;
    read_fault = counted_as (is_reading loaded) (is_read_status answer) _ _ read.faults reading;
    write_fault = writing;
    reads = rw (run_most kinds options paths o, run_paths kinds options paths o) (all_read loaded answer read refused);
    no_visits = λ without. no_visits (run_without kinds options paths o answer without);
    no_trace = λ held told d defined none. let is = run_defined kinds options paths o held d defined in no_history o is.0 loaded d (tells held told is.0 is.1) still is.2 none;
    unread = λ few. few_read loaded read still (subst (HasUnread (F.asked files) (F.asked files')) (run_paths kinds options paths o) few);
  }
