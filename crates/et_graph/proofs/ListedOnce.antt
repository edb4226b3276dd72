-- What a flush lists by stamps.
use Rattle.std.proofs.Common.{◌≡◌, ℕ, List}
use Rattle.et_graph.specs.Graph.{Graph}
use Rattle.et_graph.specs.History.{Turn, graph_after, stamp, AreStamped}
use Rattle.et_graph.proofs.Deaths.{rising_one}
use Rattle.et_graph.specs.Listed.{AreListed}

pub list_one : (g : Graph) (stamps : ℕ → ℕ) (a b : List (ℕ × ℕ)) → AreListed g stamps a → AreListed g stamps b → a ≡ b
list_one g stamps a b la lb = rising_one a b la.rising lb.rising (λ p. (
  (λ c. (lb.exact p.0 p.1).1 ((la.exact p.0 p.1).0 c)),
  (λ c. (la.exact p.0 p.1).1 ((lb.exact p.0 p.1).0 c)),
))

-- over the graph of a history, with its stamps, the list is the one that shows its deaths
pub list_stamped : (turns : List Turn) (deaths : List (ℕ × ℕ)) → AreListed (graph_after turns) (stamp turns) deaths → AreStamped turns deaths
list_stamped turns deaths l = record {
  rising = l.rising;
  exact = λ o t. (
    (λ c. let h = (l.exact o t).0 c in (h.0, record { source = h.1.source; greatest = h.1.greatest })),
    (λ h. (l.exact o t).1 (h.0, record { source = h.1.source; greatest = h.1.greatest })),
  );
}
