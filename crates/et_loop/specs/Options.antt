-- The setting of a run.
use Rattle.std.specs.Prelude.{ℕ, Bool, List}
use Rattle.et_graph.specs.Graph.{Graph}
use Rattle.et_state.specs.declared.options.Options.{Options}
use Rattle.et_state.specs.Outcome.{Outcome}
use Rattle.et_state.specs.Naming.{Names}
use Rattle.et_state.specs.Options.{pick_of}
use Rattle.et_state.specs.History.{Setting}
use Rattle.et_loop.specs.declared.guest.Guest as guest
use Rattle.et_loop.specs.declared.program.Program as program

-- the setting of a run with these options
abbrev pub setting_of : {S : Type 0} → (S → ℕ → Outcome S) → (S → List ℕ) → (S → Graph) → ((ℕ → Bool) → S → S) → Names → Options → Setting S
setting_of event unended graph flushed names options = record {
  rule = record { event = event; unended = unended; graph = graph; flushed = flushed };
  names = names;
  pick = pick_of options.schedule;
  interval = options.interval;
  limit = options.limit;
  format = options.format;
}

-- .. of a guest that runs this program
abbrev pub guest_setting : {M C R : Type 0} (G : guest.Ghosts M C R) → program.Ghosts C → C → Options → Setting G.State
guest_setting G P program options = setting_of (G.event_of program) G.unended_of G.graph_of G.flushed_of (P.names program) options
