-- What a StampBook shows, and the histories for which it stands.
use Rattle.std.specs.Prelude.{◌≡◌, ℕ, ◌-◌, List, slice_index}
use Rattle.et_graph.specs.Graph.{Graph, IsMade}
use Rattle.et_graph.specs.History.{Turn, graph_after, IsHistory, steps, stamp}

-- The present graph, the stamps of the objects 1, 2 and so on, the number of steps so far,
-- and the deaths that the newest flush listed.
pub record Book : Type 0 where
  pub graph : Graph
  pub stamps : List ℕ
  pub steps : ℕ
  pub deaths : List (ℕ × ℕ)

-- The book is what these steps, ties and flushes leave: its graph is the one to which they lead, so the objects that are gone
-- in it are those that the flushes reported, and it has the stamp of each object.
pub record StandsFor (book : Book) (turns : List Turn) : Type 0 where
  pub history : IsHistory turns
  pub graph : book.graph ≡ graph_after turns
  pub stamps : (o : ℕ) → IsMade book.graph o → slice_index book.stamps (o - 1) ≡ stamp turns o
  pub steps_so_far : book.steps ≡ steps turns
