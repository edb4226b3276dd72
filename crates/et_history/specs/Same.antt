-- What a machine keeps tells the same as the history in which nothing is freed.
use Rattle.std.specs.Prelude.{◌≡◌, ℕ, ◌⊎◌, Bool, Some, None}
use Rattle.et_graph.specs.Graph.{Graph}
use Rattle.et_heap.specs.Objects.{ObjectState, IsHeld, at, with_referent}
use Rattle.et_program.specs.Entries.{Linked}
use Rattle.et_state.specs.History.{last_reached, deaths, lines_to}
use Rattle.et_state.specs.Past.{IsPast}
use Rattle.et_state.specs.Roots.{graph, graph_of}
use Rattle.et_state.specs.Start.{start}
use Rattle.et_state.specs.State.{State}
use Rattle.et_state.specs.declared.options.Options.{Options}
use Rattle.et_event.specs.Sound.{IsSoundFor}
use Rattle.et_event.specs.Start.{start_records}
use Rattle.et_loop.specs.Kept.{IsKeptPart}
use Rattle.et_history.specs.Histories.{picked, state_at, whole_picked, whole_at}
use Rattle.et_history.specs.Whole.{whole_start}

-- the object is in the state, held or reported
abbrev pub IsHere : State → ℕ → Type 0
IsHere s o = IsHeld s.kept.heap o ⊎ IsHeld s.reported o

-- the object was reported as it is here, but what it refers to weakly may have become null
abbrev pub IsReportedAs : State → ℕ → ObjectState → Type 0
IsReportedAs s o x = (at s.reported o ≡ Some x) ⊎ (at s.reported o ≡ Some (with_referent None x))

module _ (reached : Graph → ℕ → Bool) (p : Linked) (options : Options) (pick : ℕ → ℕ) where
  -- What the machine keeps at event e tells the same as all objects do.
  pub record TellsTheSame (e : ℕ) : Type 0 where
    pub kept : (whole_at reached p options pick e).kept ≡ state_at reached p options pick e
    -- no object is both held and reported
    pub past : IsPast (whole_at reached p options pick e).kept.heap (whole_at reached p options pick e).reported
    -- its state is sound, and its clock is the number of the event
    pub sound : IsSoundFor p (whole_at reached p options pick e).kept
    pub clock : (whole_at reached p options pick e).kept.guest.clock ≡ e
    -- its graph is the whole one without the pairs of gone objects
    pub graphs : IsKeptPart (graph_of (whole_at reached p options pick e).kept) (graph (whole_at reached p options pick e))
    pub reached_same : (o : ℕ) →
        reached (graph (whole_at reached p options pick e)) o ≡ reached (graph_of (state_at reached p options pick e)) o
    pub last : (o : ℕ) →
        last_reached reached (whole_picked p options pick) (whole_start p) (start_records p) o e
        ≡ last_reached reached (picked p options pick) (start p) (start_records p) o e
    pub deaths_same : deaths reached (whole_picked p options pick) (whole_start p) (start_records p) e
        ≡ deaths reached (picked p options pick) (start p) (start_records p) e
    pub lines : lines_to reached (whole_picked p options pick) (whole_start p) (start_records p) e
        ≡ lines_to reached (picked p options pick) (start p) (start_records p) e
