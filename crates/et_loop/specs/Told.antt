-- The history for which the stamps of a run stand.
use Rattle.std.specs.Prelude.{◌≡◌, ℕ, suc, ◌≤◌, ◌↔◌, List}
use Rattle.et_graph.specs.Graph.{Graph, IsReached}
use Rattle.et_graph.specs.History.{Turn, graph_after, IsHistory, steps, WasReached, stamp}
use Rattle.et_loop.specs.Kept.{IsKeptPart}

-- After event e, of which `graphs` has the graph that each event up to it left, g is kept and these are the stamps: the
-- turns are a history that has these stamps, and of which g is the part that is kept.
pub record StandsForTurns (graphs : ℕ → Graph) (e : ℕ) (g : Graph) (stamps : ℕ → ℕ) (turns : List Turn) : Type 0 where
  pub history : IsHistory turns
  pub kept : IsKeptPart g (graph_after turns)
  pub steps_so_far : steps turns ≡ suc e
  pub stamps_are : (o : ℕ) → stamps o ≡ stamp turns o
  pub was : (k o : ℕ) → WasReached turns k o ↔ ((k ≤ e) × IsReached (graphs k) o)

-- there is such a history
abbrev pub IsToldByStamps : (ℕ → Graph) → ℕ → Graph → (ℕ → ℕ) → Type 0
IsToldByStamps graphs e g stamps = (turns : List Turn) × StandsForTurns graphs e g stamps turns
