-- What a flush lists, by the graph that is kept and the stamps alone.
use Rattle.std.specs.Prelude.{◌≡◌, ℕ, ◌≤◌, ◌↔◌, List, map, Contains}
use Rattle.std.specs.List.Sorted.{IsStrictlyIncreasing}
use Rattle.et_graph.specs.Graph.{Graph, LeadsTo, IsDead}

-- t is the greatest stamp of the objects that lead to o and aren't gone
pub record IsGreatest (g : Graph) (stamps : ℕ → ℕ) (o t : ℕ) : Type 0 where
  pub source : (u : ℕ) × (¬ Contains g.gone u) × LeadsTo g u o × (stamps u ≡ t)
  pub greatest : (u : ℕ) → ¬ Contains g.gone u → LeadsTo g u o → stamps u ≤ t

-- The dead objects in rising order, each with that stamp. `AreStamped` of et_graph is the same over a history.
pub record AreListed (g : Graph) (stamps : ℕ → ℕ) (deaths : List (ℕ × ℕ)) : Type 0 where
  pub rising : IsStrictlyIncreasing (map (λ d. d.0) deaths)
  pub exact : (o t : ℕ) → Contains deaths (o, t) ↔ (IsDead g o × IsGreatest g stamps o t)
