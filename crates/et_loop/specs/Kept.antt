-- The graph that a machine keeps, beside the whole graph, which still has the pairs of the objects that are gone.
use Rattle.std.specs.Prelude.{◌≡◌, ℕ, ◌↔◌, Bool, true, false, List, Contains}
use Rattle.et_graph.specs.Graph.{Graph}
use Rattle.et_graph.specs.Steps.{IsLegalStep}
use Rattle.et_graph.specs.Cleared.{IsClearedAndTied}

-- g is the whole graph without the pairs of gone objects
pub record IsKeptPart (g whole : Graph) : Type 0 where
  pub made : g.made ≡ whole.made
  pub roots : g.roots ≡ whole.roots
  pub gone : g.gone ≡ whole.gone
  pub pairs : (u x : ℕ) → Contains g.pairs (u, x) ↔ (Contains whole.pairs (u, x) × ¬ Contains whole.gone u)

-- a legal step leads from g to h and loses these objects
abbrev pub IsStepTo : Graph → Graph → List ℕ → Type 0
IsStepTo g h lost = (fresh : List ℕ) × IsLegalStep g (record { after = h; fresh = fresh; lost = lost })

-- h is what a flush leaves of g where one is due, and g itself where none is
abbrev pub Settles : Bool → Graph → Graph → Type 0
Settles true g h = IsClearedAndTied g h
Settles false g h = h ≡ g
