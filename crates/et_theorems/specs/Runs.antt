-- WHAT THE THEOREMS SPEAK OF, and all their premises.
use Rattle.std.specs.Prelude.{◌≡◌, ℕ, suc, ◌<◌, ◌≤◌, ◌^◌, ◌⊎◌, Bool, true, List, [], length, Some}
use Rattle.et_base.specs.Numbers.{AreBytes}
use Rattle.et_base.specs.declared.line.TraceLine.{TraceLine}
use Rattle.et_base.specs.declared.value.End.{End}
use Rattle.et_graph.specs.Graph.{Graph, Decides}
use Rattle.et_io.specs.Files.{Held}
use Rattle.et_io.specs.Sink.{with_more}
use Rattle.et_program.specs.Entries.{Linked}
use Rattle.et_state.specs.History.{Setting, IsLastEvent, deaths, is_flush_point, picked_turn, trace_of}
use Rattle.et_state.specs.Options.{pick_of}
use Rattle.et_state.specs.State.{State}
use Rattle.et_state.specs.declared.options.Options.{Options}
use Rattle.et_event.specs.Moments.{Moment}
use Rattle.et_event.specs.Start.{start_records}
use Rattle.et_history.specs.Histories.{whole_at, whole_settled_at}
use Rattle.et_history.specs.Whole.{whole_setting, whole_start}
use Rattle.et_replay.specs.declared.model.Kind.{Kind}
use Rattle.et_files.specs.Loaded.{most_of_trace}
use Rattle.et_top.specs.Top.{Traces, IsDefined, WritesHistory}
use Rattle.et_files.specs.declared.status.Status.{Status}

-- A RUN: the words, the files that are held and the kinds of models that are handed in; the program and the options that they
-- define; a test of what is reachable; and the last event of the history, with its end.
pub record Run : Type 0 where
  pub words : List (List ℕ)
  pub held : Held
  pub kinds : List Kind
  pub program : Linked
  pub options : Options
  pub reached : Graph → ℕ → Bool
  pub last : ℕ
  pub end : End

-- THE HISTORY of a run is the one in which nothing is freed
abbrev pub setting_of : Run → Setting State
setting_of r = whole_setting r.program r.options

-- .. its picks of threads, by the options
abbrev pub picks_of : Run → ℕ → ℕ
picks_of r = pick_of r.options.schedule

-- .. the state that an event left, with each object that was ever made
abbrev pub state_at : Run → ℕ → State
state_at r e = whole_at r.reached r.program r.options (picks_of r) e

-- .. the deaths that a flush after an event tells
abbrev pub deaths_at : Run → ℕ → List (ℕ × ℕ)
deaths_at r e = deaths r.reached (setting_of r) (whole_start r.program) (start_records r.program) e

-- .. and its trace
abbrev pub lines_of : Run → List TraceLine
lines_of r = trace_of r.reached (setting_of r) (whole_start r.program) (start_records r.program) r.last r.end

-- THE PREMISES
pub record IsTraced (r : Run) : Type 0 where
  -- the words and the files define the trace of the program with the options
  pub defined : IsDefined r.kinds r.words r.held (Traces r.program r.options)
  -- files hold bytes
  pub bytes : (path file : List ℕ) → r.held path ≡ Some file → AreBytes file
  -- each class of the program, array classes among them, has a number of 32 bits
  pub few : length r.program.classes < 2 ^ 32
  -- the test decides what is reachable; there is one, as the law `reaching_is_decided` says
  pub decides : Decides r.reached
  -- the history ends so; each has one end, as the law `each_history_ends` says
  pub ends : IsLastEvent r.reached (setting_of r) (whole_start r.program) (start_records r.program) r.last r.end

-- THE TRACE WAS WRITTEN to an output that began empty, and these are its bytes. Later a file holds them, and they are no more
-- than is read of a trace.
pub record IsWritten (r : Run) (later : Held) (path bytes : List ℕ) : Type 0 where
  pub answer : Status
  pub old : ℕ
  pub new : ℕ
  pub wrote : WritesHistory r.reached (Some []) (with_more (Some []) bytes) old new r.program r.options answer
  pub held : later path ≡ Some bytes
  pub short : length bytes ≤ most_of_trace

-- a flush comes after the event: after each multiple of the interval, and after the last one
pub record IsFlushed (r : Run) (e : ℕ) : Type 0 where
  pub within : e ≤ r.last
  pub due : (is_flush_point r.options.interval e ≡ true) ⊎ (e ≡ r.last)

-- what the event after the last one would be of
abbrev pub next_moment : Run → Moment
next_moment r =
    let s = whole_settled_at r.reached r.program r.options (picks_of r) r.last in
    record { program = r.program; before = s.kept; thread = picked_turn (setting_of r) (suc r.last) s }
