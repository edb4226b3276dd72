use Rattle.std.proofs.Common.{ℕ, List, ◌∷◌, map, refl, sym, subst}
use Rattle.et_graph.specs.History.{AreDeaths}
use Rattle.et_graph.specs.History.Turn.{Flushed}
use Rattle.et_graph.specs.Book.{StandsFor}
use Rattle.et_graph.proofs.book.StampBook.flush.Goals as goal

pub returns : goal.returns
returns c = (
  (
    refl,
    (λ _. tt),
    λ turns stands.
        subst (λ (ds : List (ℕ × ℕ)). StandsFor c.report.new.self (Flushed c.report.new.self.graph (map (λ (d : ℕ × ℕ). d.0) ds) ∷ turns)) (sym c.deaths.ensures) (c.report.ensures.stands turns stands),
  ),
  record {
    stands = tt;
    deaths = λ turns stands. subst (λ (ds : List (ℕ × ℕ)). AreDeaths turns ds) (sym c.deaths.ensures) (c.report.ensures.deaths turns stands);
  },
)
