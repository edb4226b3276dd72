-- What the words and the files that are held define, and what the program may answer.
use Rattle.std.specs.Prelude.{◌≡◌, ℕ, ◌+◌, ◌≤◌, ◌⊎◌, Bool, List, map, ◌++◌, ◌∷◌, [], codes, Option, Some, None, option_map, filter_map, Result, Ok, Err}
use Rattle.std.specs.Fmt.{decimal}
use Rattle.et_base.specs.declared.line.TraceLine.{TraceLine}
use Rattle.et_base.specs.declared.value.End.{End}
use Rattle.et_base.specs.declared.value.End.TheVariants as ends
use Rattle.et_graph.specs.Graph.{Graph}
use Rattle.et_io.specs.Files.{Held}
use Rattle.et_io.specs.Sink.{Log, with_more, TakesPrefix}
use Rattle.et_state.specs.declared.options.Options.{Options}
use Rattle.et_text.specs.declared.fault.TraceFault.TheVariants as faults
use Rattle.et_loop.specs.declared.options.Ran.{Ran}
use Rattle.et_loop.specs.Traced.{WritesTrace, WritesPrefix}
use Rattle.et_loop.specs.Said.{Says, SaysPrefix, IsCutSaid}
use Rattle.et_convert.specs.Conversions.{converted_bytes}
use Rattle.et_replay.specs.Curve.{curve_text}
use Rattle.et_replay.specs.Replay.{replay_text}
use Rattle.et_replay.specs.Timeline.{timeline_items}
use Rattle.et_snapshot.specs.Snapshot.{snapshot_text}
use Rattle.et_replay.specs.declared.model.Kind.{Kind}
use Rattle.et_replay.specs.declared.model.Kind.TheVariants as kind
use Rattle.et_replay.specs.declared.model.Policy.{Policy}
use Rattle.et_command.specs.declared.command.Models.{Models}
use Rattle.et_command.specs.Command as words
use Rattle.et_program.specs.Entries.{Linked}
use Rattle.et_run.specs.Start.{start_records}
use Rattle.et_run.specs.Whole.{whole_setting, whole_start, whole_visits_of, whole_said}
use Rattle.et_run.specs.Settings.{said_by}
use Rattle.et_loop.specs.Visits.{allowed_visits, IsCut}
use Rattle.et_verify.specs.Typings.{IsVerified}
use Rattle.et_verify.specs.Verdicts.{verified_count, IsFirstRejected}
use Rattle.et_files.specs.Faults.{Fault, status_of_fault}
use Rattle.et_bench.specs.Listing.{bench_listing}
use Rattle.et_bench.specs.Totals.{summary_text}
use Rattle.et_files.specs.Loaded.{IsListingProgram, file_bytes, most_of_class, most_of_trace, IsListingOf, IsTraceOf, IsProgramOfFiles, reaching}
use Rattle.et_top.specs.Bench.{IsReadBack, IsNotReadBack}
use Rattle.et_files.specs.declared.status.Status.{Status}
use Rattle.et_files.specs.declared.status.Status.TheVariants as status

-- what the words and the files define: no command, a file that is refused, a text, the verdict on a program, the trace of a
-- history, what one prints, or the summary of one. A text may tell of what is reached; it takes a test that decides that
pub data Defined : Type 0 where
  Usage : Defined
  Refused : Fault → Defined
  Writes : (text : (Graph → ℕ → Bool) → List ℕ) → Defined
  Verifies : (program : Linked) → Defined
  Traces : (program : Linked) → (options : Options) → Defined
  Prints : (program : Linked) → (options : Options) → Defined
  Benches : (program : Linked) → Defined

abbrev pub traces : Options → Result Linked Fault → Defined
traces options (Err fault) = Refused fault
traces options (Ok program) = Traces program options

abbrev pub prints : Options → Result Linked Fault → Defined
prints options (Err fault) = Refused fault
prints options (Ok program) = Prints program options

abbrev pub verifies : Result Linked Fault → Defined
verifies (Err fault) = Refused fault
verifies (Ok program) = Verifies program

abbrev pub benches : Result Linked Fault → Defined
benches (Err fault) = Refused fault
benches (Ok program) = Benches program

abbrev pub defined_text : {A : Type 0} → ((Graph → ℕ → Bool) → A → List ℕ) → Result A Fault → Defined
defined_text text (Err fault) = Refused fault
defined_text text (Ok a) = Writes (λ reached. text reached a)

-- the policies of the models of these kinds, of which only those that are asked for are used
abbrev pub policy_of : Models → Kind → Option Policy
policy_of asked kind.MarkSweep = option_map (λ first. record { kind = kind.MarkSweep; first = first; second = 0 }) asked.mark_sweep
policy_of asked kind.SemiSpace = option_map (λ first. record { kind = kind.SemiSpace; first = first; second = 0 }) asked.semispace
policy_of asked kind.Generational = option_map (λ spaces. record { kind = kind.Generational; first = spaces.nursery; second = spaces.old }) asked.generational
policy_of asked kind.RefCount = option_map (λ first. record { kind = kind.RefCount; first = first; second = 0 }) asked.ref_count

abbrev pub policies_of : Models → List Kind → List Policy
policies_of asked kinds = filter_map (policy_of asked) kinds

-- what is defined where models of these kinds are handed in
abbrev pub IsAskedDefined : List Kind → Option words.Asked → Held → Defined → Type 0
IsAskedDefined kinds None held d = d ≡ Usage
IsAskedDefined kinds (Some (words.Trace options paths)) held d =
    (program : Result Linked Fault) × IsProgramOfFiles (map held paths) program × (d ≡ traces options program)
IsAskedDefined kinds (Some (words.Run options paths)) held d =
    (program : Result Linked Fault) × IsProgramOfFiles (map held paths) program × (d ≡ prints options program)
IsAskedDefined kinds (Some (words.Assemble path)) held d =
    (class : Result (List ℕ) Fault) × IsListingOf (file_bytes most_of_class (held path)) class × (d ≡ defined_text (λ reached bytes. bytes) class)
IsAskedDefined kinds (Some (words.Verify paths)) held d =
    (program : Result Linked Fault) × IsProgramOfFiles (map held paths) program × (d ≡ verifies program)
IsAskedDefined kinds (Some (words.Replay asked path)) held d =
    (trace : Result (List TraceLine) Fault) × IsTraceOf (file_bytes most_of_trace (held path)) trace
    × (d ≡ defined_text (λ reached lines. replay_text reached (timeline_items lines) (policies_of asked kinds)) trace)
IsAskedDefined kinds (Some (words.Convert path)) held d =
    (trace : Result (List TraceLine) Fault) × IsTraceOf (file_bytes most_of_trace (held path)) trace × (d ≡ defined_text (λ reached lines. converted_bytes lines) trace)
IsAskedDefined kinds (Some (words.Curve path)) held d =
    (trace : Result (List TraceLine) Fault) × IsTraceOf (file_bytes most_of_trace (held path)) trace × (d ≡ defined_text (λ reached lines. curve_text lines) trace)
IsAskedDefined kinds (Some (words.Snapshot path event)) held d =
    (trace : Result (List TraceLine) Fault) × IsTraceOf (file_bytes most_of_trace (held path)) trace
    × (d ≡ defined_text (λ reached lines. snapshot_text lines event) (reaching event trace))
IsAskedDefined kinds (Some (words.Bench number)) held d =
    (program : Result Linked Fault) × IsListingProgram (bench_listing number 50000 40000) program × (d ≡ benches program)

-- THE ONE THING that the words and the files that are held define
abbrev pub IsDefined : List Kind → List (List ℕ) → Held → Defined → Type 0
IsDefined kinds line held d = IsAskedDefined kinds (words.command line) held d

-- the line of a program whose methods with code, so many, all have typings
abbrev pub verified_text : ℕ → List ℕ
verified_text count = codes "verified " ++ decimal count ++ 10 ∷ []

-- the status of a history that was run to its end
abbrev pub status_of_end : End → Status
status_of_end ends.Finished = status.Done
status_of_end ends.EventLimit = status.Done
status_of_end (ends.IllTyped thread method pc) = status.IllTyped
status_of_end ends.ObjectLimit = status.ObjectLimit

module _ (reached : Graph → ℕ → Bool) (before after : Log) (old new : ℕ) where
  -- the history of the program ended so, and out took its trace, no more and no less; and objects were visited no more often
  -- than the history allows, by a counter that was old and is new
  pub record WritesHistory (program : Linked) (options : Options) (answer : Status) : Type 0 where
    pub ran : Ran
    pub ended : answer ≡ status_of_end ran.end
    pub wrote : WritesTrace reached (whole_setting program options) (whole_start program) (start_records program) ran before after
    pub visits : new ≤ old + allowed_visits reached (whole_setting program options) whole_visits_of (whole_start program) (start_records program) ran.event

  -- the history of the program was cut off: out took a prefix of its trace, and the counter allows for the turns up to the
  -- one in which that was, or is as before where no turn was begun
  pub record WritesCut (program : Linked) (options : Options) : Type 0 where
    pub wrote : WritesPrefix reached (whole_setting program options) (whole_start program) (start_records program) before after
    pub visits : IsCut reached (whole_setting program options) whole_visits_of (whole_start program) (start_records program) before after old new

  -- the history of the program ended so, and out took what its events print, no more and no less; and objects were visited no
  -- more often than the history allows
  pub record PrintsHistory (program : Linked) (options : Options) (answer : Status) : Type 0 where
    pub ran : Ran
    pub ended : answer ≡ status_of_end ran.end
    pub printed : Says reached (whole_setting program options) (whole_said (said_by program)) (whole_start program) (start_records program) ran before after
    pub visits : new ≤ old + allowed_visits reached (whole_setting program options) whole_visits_of (whole_start program) (start_records program) ran.event

  -- the history of the program was cut off: out took a prefix of what it prints, and the counter allows for the turns up to the
  -- one in which that was, or is as before where no turn was begun
  pub record PrintsCut (program : Linked) (options : Options) : Type 0 where
    pub printed : SaysPrefix reached (whole_setting program options) (whole_said (said_by program)) (whole_start program) (start_records program) before after
    pub visits : IsCutSaid reached (whole_setting program options) (whole_said (said_by program)) (whole_start program) (start_records program) whole_visits_of before after old new

  -- the history of the program ended so, its trace was read back, and out took the summary of its lines
  pub record WritesSummary (program : Linked) (answer : Status) : Type 0 where
    pub event : ℕ
    pub end : End
    pub lines : List TraceLine
    pub back : IsReadBack reached program old new event end lines
    pub ended : answer ≡ status_of_end end
    pub wrote : after ≡ with_more before (summary_text reached lines)

  -- .. or a prefix of it
  pub record CutsSummary (program : Linked) : Type 0 where
    pub event : ℕ
    pub end : End
    pub lines : List TraceLine
    pub back : IsReadBack reached program old new event end lines
    pub wrote : TakesPrefix before after (summary_text reached lines)

  -- The answer of a bench. Nothing is written before the trace was read back.
  abbrev pub GivesBench : (written : Type 0) → Linked → Status → Type 0
  GivesBench written program status.Done = WritesSummary program status.Done
  GivesBench written program status.IllTyped = WritesSummary program status.IllTyped
  GivesBench written program status.ObjectLimit = WritesSummary program status.ObjectLimit
  GivesBench written program status.BadTrace = (after ≡ before) × ((kind line : ℕ) × IsNotReadBack reached program old new (faults.At kind line))
  GivesBench written program status.WriteFault = written × CutsSummary program
  GivesBench written program status.NoMemory = ((after ≡ before) × IsNotReadBack reached program old new faults.NoMemory) ⊎ CutsSummary program
  GivesBench written program answer = ⊥

  -- each method of the files has a typing, and a prefix of the line that says so was taken
  abbrev pub CutsVerdict : Linked → Type 0
  CutsVerdict program = IsVerified program × TakesPrefix before after (verified_text (verified_count program))

  -- THE ANSWER where the files and out tell what they hold and took. `read` and `written` say that the count of faults
  -- of the files and of out rose in this call. Each answer has what is defined; but a fault of reading or writing comes
  -- where its count rose, and want of memory anywhere. Where nothing is defined to be written nothing was taken; after
  -- a fault of writing and want of memory a prefix of what is. The visits of objects are counted in the run of a history.
  abbrev pub GivesDefined : (read written : Type 0) → Defined → Status → Type 0
  GivesDefined read written Usage answer = (after ≡ before) × ((answer ≡ status.Usage) ⊎ (answer ≡ status.NoMemory))
  GivesDefined read written (Refused fault) answer =
      (after ≡ before) × ((answer ≡ status_of_fault fault) ⊎ (((answer ≡ status.ReadFault) × read) ⊎ (answer ≡ status.NoMemory)))
  GivesDefined read written (Writes text) status.Done = after ≡ with_more before (text reached)
  GivesDefined read written (Writes text) status.ReadFault = read × (after ≡ before)
  GivesDefined read written (Writes text) status.WriteFault = written × TakesPrefix before after (text reached)
  GivesDefined read written (Writes text) status.NoMemory = TakesPrefix before after (text reached)
  GivesDefined read written (Writes text) answer = ⊥
  GivesDefined read written (Verifies program) status.Done = IsVerified program × (after ≡ with_more before (verified_text (verified_count program)))
  GivesDefined read written (Verifies program) status.Rejected = (after ≡ before) × ((m : ℕ) × IsFirstRejected program m)
  GivesDefined read written (Verifies program) status.ReadFault = read × (after ≡ before)
  GivesDefined read written (Verifies program) status.WriteFault = written × CutsVerdict program
  GivesDefined read written (Verifies program) status.NoMemory = (after ≡ before) ⊎ CutsVerdict program
  GivesDefined read written (Verifies program) answer = ⊥
  GivesDefined read written (Traces program options) status.Done = WritesHistory program options status.Done
  GivesDefined read written (Traces program options) status.IllTyped = WritesHistory program options status.IllTyped
  GivesDefined read written (Traces program options) status.ObjectLimit = WritesHistory program options status.ObjectLimit
  GivesDefined read written (Traces program options) status.ReadFault = read × (after ≡ before)
  GivesDefined read written (Traces program options) status.WriteFault = written × WritesCut program options
  GivesDefined read written (Traces program options) status.NoMemory = WritesCut program options
  GivesDefined read written (Traces program options) answer = ⊥
  GivesDefined read written (Prints program options) status.Done = PrintsHistory program options status.Done
  GivesDefined read written (Prints program options) status.IllTyped = PrintsHistory program options status.IllTyped
  GivesDefined read written (Prints program options) status.ObjectLimit = PrintsHistory program options status.ObjectLimit
  GivesDefined read written (Prints program options) status.ReadFault = read × (after ≡ before)
  GivesDefined read written (Prints program options) status.WriteFault = written × PrintsCut program options
  GivesDefined read written (Prints program options) status.NoMemory = PrintsCut program options
  GivesDefined read written (Prints program options) answer = ⊥
  GivesDefined read written (Benches program) answer = GivesBench written program answer
