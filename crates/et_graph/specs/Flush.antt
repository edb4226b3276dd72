-- What a flush leaves once the deaths that it lent are read.
use Rattle.std.specs.Prelude.{List, ◌∷◌, map, ⊤}
use Rattle.std.specs.Borrow.{MutBor, Fml, follows_so}
use mathlib.Core.Option.Option.{none}
use Rattle.et_graph.specs.declared.objects.Death.{Death}
use Rattle.et_graph.specs.History.{Turn}
use Rattle.et_graph.specs.History.Turn.{Flushed}
use Rattle.et_graph.specs.Book.{Book, StandsFor}
use Rattle.et_graph.specs.Listing.{death_pairs}
use Rattle.et_graph.specs.contracts.book.StampBook.{the_row}

-- the book ends as one that stands for the history with this flush
abbrev pub EndsFlushed : MutBor Book → List Death → Fml
EndsFlushed s deaths =
    follows_so the_row the_row s.ghost_name none (λ _ _. ⊤)
    (λ after. (turns : List Turn) → StandsFor s.now turns
    → StandsFor after (Flushed after.graph (map (λ d. d.0) (death_pairs deaths)) ∷ turns))
