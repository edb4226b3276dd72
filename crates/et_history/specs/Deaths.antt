-- THE DEATHS THAT A FLUSH TELLS, in the history in which nothing is freed. No word here knows what a machine keeps.
use Rattle.std.specs.Prelude.{◌≡◌, ℕ, ◌<◌, ◌≤◌, Bool, true, Contains}
use Rattle.et_graph.specs.Graph.{Graph, IsMade, IsReached}
use Rattle.et_program.specs.Entries.{Linked}
use Rattle.et_state.specs.History.{deaths, is_flush_point}
use Rattle.et_state.specs.Roots.{graph}
use Rattle.et_state.specs.declared.options.Options.{Options}
use Rattle.et_event.specs.Start.{start_records}
use Rattle.et_history.specs.Histories.{whole_at, whole_picked}
use Rattle.et_history.specs.Whole.{whole_start}

module _ (reached : Graph → ℕ → Bool) (p : Linked) (options : Options) (pick : ℕ → ℕ) where
  -- a flush before event e told a death of the object
  abbrev pub WasTold : (e object : ℕ) → Type 0
  WasTold e o =
      (f : ℕ) × (f < e) × (is_flush_point options.interval f ≡ true)
      × (time : ℕ) × Contains (deaths reached (whole_picked p options pick) (whole_start p) (start_records p) f) (o, time)

  -- the last of the events up to e that left a state in which the object is reached
  pub record IsLastReached (e object time : ℕ) : Type 0 where
    pub within : time ≤ e
    pub reached_then : IsReached (graph (whole_at reached p options pick time)) object
    pub not_later : (k : ℕ) → time < k → k ≤ e → ¬ IsReached (graph (whole_at reached p options pick k)) object

  -- The object was made by event e, is not reached in the state that it left, was told by no flush before, and this is the
  -- last event at which it was reached.
  pub record DiesBy (e object time : ℕ) : Type 0 where
    pub made : IsMade (graph (whole_at reached p options pick e)) object
    pub unreached : ¬ IsReached (graph (whole_at reached p options pick e)) object
    pub untold : ¬ WasTold e object
    pub last : IsLastReached e object time
