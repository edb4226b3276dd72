-- What a StampBook keeps, seen as a Book, and what always holds of it.
use Rattle.std.specs.Prelude.{◌≡◌, ◌≤◌, ◌<◌, ◌^◌, All, length}
use Rattle.et_graph.specs.Graph.{IsSoundGraph}
use Rattle.et_graph.specs.Listing.{flagged, death_pairs}
use Rattle.et_graph.specs.Objects.{HasPlaces}
use Rattle.et_graph.specs.Book.{Book}
use Rattle.et_graph.specs.declared.book.StampBook.TheInside.{Inside}

abbrev pub book_of : Inside → Book
book_of a = record {
  graph = record {
    made = length a.objects.stamps.items;
    roots = a.roots.items;
    pairs = a.pairs.items;
    gone = flagged 1 a.objects.gone.items;
  };
  stamps = a.objects.stamps.items;
  steps = a.steps;
  deaths = death_pairs a.objects.deaths.items;
}

pub record IsBook (a : Inside) : Type 0 where
  pub sound : IsSoundGraph (book_of a).graph
  pub few : length a.objects.stamps.items < 2 ^ 32
  pub before : All (λ t. t ≤ a.steps) a.objects.stamps.items
  pub gone : length a.objects.gone.items ≡ length a.objects.stamps.items
  pub places : HasPlaces (length a.objects.stamps.items) a.objects
