-- WHAT A SNAPSHOT OF A RUN SHOWS: the objects that are live, and what a law asks of a run that ended.
use Rattle.std.specs.Prelude.{ℕ, Bool, List, Option, Some, None}
use Rattle.std.specs.List.{filter_map}
use Rattle.et_base.specs.declared.line.TraceLine.{TraceLine}
use Rattle.et_base.specs.declared.line.TraceLine.TheVariants.{Alloc}
use Rattle.et_base.specs.declared.value.End.{End}
use Rattle.et_graph.specs.Graph.{Graph, Decides}
use Rattle.et_program.specs.Entries.{Linked}
use Rattle.et_state.specs.History.{IsLastEvent}
use Rattle.et_state.specs.Options.{AreOptions}
use Rattle.et_state.specs.Start.{start}
use Rattle.et_state.specs.declared.options.Options.{Options}
use Rattle.et_event.specs.Start.{start_records}
use Rattle.et_history.specs.Allocations.{HasArguments}
use Rattle.et_history.specs.Histories.{whole_picked}
use Rattle.et_history.specs.Settings.{IsSoundRun}
use Rattle.et_history.specs.Whole.{whole_start}
use Rattle.et_snapshot.specs.Snapshot.{live_lines}
use Rattle.et_history.specs.steps.Records.{HasPlainStrings}
use Rattle.et_history.specs.steps.Writes.{HasCause}

-- the object that an A line makes
abbrev pub object_made : TraceLine → Option ℕ
object_made (Alloc event thread object class size length) = Some object
object_made _ = None

-- the objects that a trace shows live at an event, in the order of their A lines
abbrev pub live_objects : List TraceLine → ℕ → List ℕ
live_objects lines e = filter_map object_made (live_lines lines e)

-- what is asked of a program: it may be run, a string is no array, the arguments of `main` are one, and an
-- ExceptionInInitializerError has a slot for its cause. Every program that was linked is such a one
pub record IsShown (p : Linked) : Type 0 where
  pub run : IsSoundRun p (start p)
  pub strings : HasPlainStrings p
  pub arguments : HasArguments p
  pub cause : HasCause p

-- A RUN THAT ENDED: the history of such a program in which nothing is freed, with any list of picks, whose last event is this one
pub record IsEndedRun (reached : Graph → ℕ → Bool) (p : Linked) (options : Options) (pick : ℕ → ℕ) (last : ℕ) (end : End) : Type 0 where
  pub decides : Decides reached
  pub program : IsShown p
  pub options_are : AreOptions options
  pub last_is : IsLastEvent reached (whole_picked p options pick) (whole_start p) (start_records p) last end
