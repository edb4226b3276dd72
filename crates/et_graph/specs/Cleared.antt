-- What a flush leaves of a graph of which only the pairs of objects that aren't gone are kept: it is cleared, and then tied.
use Rattle.std.specs.Prelude.{◌≡◌, ℕ, ◌↔◌, ◌⊎◌, Contains}
use Rattle.et_graph.specs.Graph.{Graph, IsDead}
use Rattle.et_graph.specs.Steps.{IsTie}

-- The dead of g are gone in h, and with them their pairs.
pub record IsCleared (g h : Graph) : Type 0 where
  pub made : h.made ≡ g.made
  pub roots : h.roots ≡ g.roots
  pub gone : (o : ℕ) → Contains h.gone o ↔ (Contains g.gone o ⊎ IsDead g o)
  pub pairs : (u x : ℕ) → Contains h.pairs (u, x) ↔ (Contains g.pairs (u, x) × ¬ Contains h.gone u)

-- g is cleared, and then a tie leads to h
abbrev pub IsClearedAndTied : Graph → Graph → Type 0
IsClearedAndTied g h = (middle : Graph) × IsCleared g middle × IsTie middle h
