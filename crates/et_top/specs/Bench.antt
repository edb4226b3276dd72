-- THE RUN OF A BENCH: its program is run into memory, and the trace is read back.
use Rattle.std.specs.Prelude.{ℕ, ◌+◌, ◌^◌, ◌<◌, ◌≤◌, ◌⊎◌, Bool, List, [], Some}
use Rattle.et_base.specs.declared.format.Format.TheVariants.{Text}
use Rattle.et_base.specs.declared.line.TraceLine.{TraceLine}
use Rattle.et_base.specs.declared.value.End.{End}
use Rattle.et_graph.specs.Graph.{Graph}
use Rattle.et_text.specs.Spelling.{text}
use Rattle.et_text.specs.Text.{IsTextOf, IsTraceFault}
use Rattle.et_text.specs.declared.fault.TraceFault.{TraceFault}
use Rattle.et_text.specs.declared.fault.TraceFault.TheVariants as faults
use Rattle.et_program.specs.Entries.{Linked}
use Rattle.et_io.specs.Sink.{Mark}
use Rattle.et_state.specs.History.{IsLastEvent, trace_of}
use Rattle.et_state.specs.declared.options.Options.{Options}
use Rattle.et_state.specs.declared.options.Schedule.TheVariants.{Quantum}
use Rattle.et_run.specs.Start.{start_records}
use Rattle.et_run.specs.Whole.{whole_setting, whole_start, whole_visits_of}
use Rattle.et_loop.specs.Visits.{allowed_visits, IsCut}

-- the numbers of a bench: those from which its choices are made, of its cells and of its rounds
pub record AreBenchNumbers (number cells rounds : ℕ) : Type 0 where
  pub choices : number < 2 ^ 63
  pub size : (1 ≤ cells) × (cells ≤ 50000)
  pub turns : rounds ≤ 40000

abbrev pub bench_options : Options
bench_options = record { interval = 100000; limit = 1000000000; schedule = Quantum 100; format = Text }

module _ (reached : Graph → ℕ → Bool) (program : Linked) where
  -- the history of the program ends so
  abbrev pub IsBenchEnd : ℕ → End → Type 0
  IsBenchEnd event end = IsLastEvent reached (whole_setting program bench_options) (whole_start program) (start_records program) event end

  -- the text of the trace of that history
  abbrev pub bench_trace : ℕ → End → List ℕ
  bench_trace event end = text (trace_of reached (whole_setting program bench_options) (whole_start program) (start_records program) event end)

  -- how many visits of objects that history allows
  abbrev pub bench_visits : ℕ → ℕ
  bench_visits event = allowed_visits reached (whole_setting program bench_options) whole_visits_of (whole_start program) (start_records program) event

  module _ (old new : ℕ) where
    -- The history was run to its end, with no more visits of objects than it allows, by a counter that was old and is new.
    pub record IsBenchRun (event : ℕ) (end : End) : Type 0 where
      pub last : IsBenchEnd event end
      pub visits : new ≤ old + bench_visits event

    -- .. or it was cut off: the counter allows for the turns up to the one in which that was
    abbrev pub IsBenchCut : Type 0
    IsBenchCut = (taken : List Mark) × IsCut reached (whole_setting program bench_options) whole_visits_of (whole_start program) (start_records program) (Some []) (Some taken) old new

    -- the trace of the history that was run was read back to these lines, of which it is the text
    pub record IsReadBack (event : ℕ) (end : End) (lines : List TraceLine) : Type 0 where
      pub run : IsBenchRun event end
      pub read : IsTextOf lines (bench_trace event end)

    -- it was not read back: the trace is a bad one, or memory ran out, in the run or behind it
    abbrev pub IsNotReadBack : TraceFault → Type 0
    IsNotReadBack (faults.At kind line) = (event : ℕ) × (end : End) × IsBenchRun event end × IsTraceFault (bench_trace event end) kind line
    IsNotReadBack faults.NoMemory = IsBenchCut ⊎ ((event : ℕ) × (end : End) × IsBenchRun event end)
