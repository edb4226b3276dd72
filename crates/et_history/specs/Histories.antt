-- The two histories of a program, their states, and how often a thread holds a monitor in them.
use Rattle.std.specs.Prelude.{ℕ, zero, suc, ◌≡◌, ◌<◌, ◌==◌, Bool, if◌then◌else◌, None}
use Rattle.et_graph.specs.Graph.{Graph, Decides}
use Rattle.et_program.specs.Entries.{Linked}
use Rattle.et_state.specs.State.{Kept, State}
use Rattle.et_state.specs.declared.options.Options.{Options}
use Rattle.et_state.specs.History.{Setting, left_by, settled}
use Rattle.et_state.specs.History as history
use Rattle.et_state.specs.Options.{AreOptions}
use Rattle.et_event.specs.Told.{event_with_texts}
use Rattle.et_event.specs.Moments.{Moment}
use Rattle.et_event.specs.Monitors.{Lock}
use Rattle.et_state.specs.Start.{start}
use Rattle.et_event.specs.Start.{start_records}
use Rattle.et_history.specs.Settings.{IsSoundRun, setting}
use Rattle.et_history.specs.Whole.{whole_setting, whole_start}
use Rattle.et_history.specs.steps.Holding.{times_after}

-- THE HISTORY of a program with these options, where any list of numbers picks the threads
abbrev pub picked : Linked → Options → (ℕ → ℕ) → Setting Kept
picked p options pick = record (setting p options) { pick = pick }

-- .. over states in which nothing is freed
abbrev pub whole_picked : Linked → Options → (ℕ → ℕ) → Setting State
whole_picked p options pick = record (whole_setting p options) { pick = pick }

-- WHAT THE LAWS ON HISTORIES ASK: the test decides what is reached, the program may be run and its first state is sound, and
-- the options are in range
pub record IsHistory (reached : Graph → ℕ → Bool) (p : Linked) (options : Options) : Type 0 where
  pub decides : Decides reached
  pub run : IsSoundRun p (start p)
  pub options_are : AreOptions options

module _ (reached : Graph → ℕ → Bool) (p : Linked) (options : Options) (pick : ℕ → ℕ) where
  -- the state that event e left
  abbrev pub state_at : ℕ → Kept
  state_at e = left_by reached (picked p options pick) (start p) (start_records p) e

  -- .. after the flush there, if one is due
  abbrev pub settled_at : ℕ → Kept
  settled_at e = settled reached (picked p options pick) e (state_at e)

  abbrev pub whole_at : ℕ → State
  whole_at e = left_by reached (whole_picked p options pick) (whole_start p) (start_records p) e

  abbrev pub whole_settled_at : ℕ → State
  whole_settled_at e = settled reached (whole_picked p options pick) e (whole_at e)

  -- the history goes on after event e
  abbrev pub HistoryGoesOn : ℕ → Type 0
  HistoryGoesOn e = history.ending (picked p options pick) e (settled_at e) ≡ None

  abbrev pub WholeGoesOn : ℕ → Type 0
  WholeGoesOn e = history.ending (whole_picked p options pick) e (whole_settled_at e) ≡ None

  -- it comes to event e: it goes on after each event before
  abbrev pub HistoryComesTo : ℕ → Type 0
  HistoryComesTo e = (k : ℕ) → k < e → HistoryGoesOn k

  abbrev pub WholeComesTo : ℕ → Type 0
  WholeComesTo e = (k : ℕ) → k < e → WholeGoesOn k

  -- a history in which nothing is freed, up to event e
  pub record IsHistoryTo (e : ℕ) : Type 0 where
    pub is : IsHistory reached p options
    pub comes : WholeComesTo e

  -- what the next event is of
  abbrev pub moment_at : ℕ → Moment
  moment_at e = record { program = p; before = settled_at e; thread = history.picked_turn (picked p options pick) (suc e) (settled_at e) }

  -- how often thread t holds the monitor after event e
  unfoldable pub times_held : ℕ → Lock → ℕ → ℕ
  times_held t lock zero = 0
  times_held t lock (suc e) =
      if (moment_at e).thread == t then times_after (moment_at e) lock (times_held t lock e) (event_with_texts p (settled_at e) (moment_at e).thread)
      else times_held t lock e
