-- What a book keeps of the objects, after a step and after a search for deaths.
use Rattle.std.specs.Prelude.{◌≡◌, ℕ, ◌-◌, ◌<◌, ◌≤◌, ◌||◌, ◌++◌, false, nat_lt, List, length, replicate, vec_capacity, slice_index, slice_index_or}
use Rattle.et_graph.specs.declared.objects.Objects.{Objects}
use Rattle.et_graph.specs.Times.{set_each, Carries, AreSettled}
use Rattle.et_graph.specs.Order.{HasSearchRoom}
use Rattle.et_graph.specs.Listing.{listed, death_pairs}

-- there is room for n objects
pub record HasPlaces (n : ℕ) (a : Objects) : Type 0 where
  pub stamps : n ≤ vec_capacity a.stamps
  pub gone : n ≤ vec_capacity a.gone
  pub times : n ≤ vec_capacity a.times
  pub deaths : n ≤ vec_capacity a.deaths
  pub room : HasSearchRoom n a.room

-- the stamps, the flags and the deaths are as they were, and the room is no less
pub record ArePlacesKept (a b : Objects) : Type 0 where
  pub stamps : b.stamps.items ≡ a.stamps.items
  pub gone : b.gone.items ≡ a.gone.items
  pub deaths : b.deaths.items ≡ a.deaths.items
  pub places : (n : ℕ) → HasPlaces n a → HasPlaces n b

-- step number n lost these objects and made so many
pub record TakesStep (a b : Objects) (lost : List ℕ) (n made : ℕ) : Type 0 where
  pub stamps : b.stamps.items ≡ set_each lost (n - 1) a.stamps.items ++ replicate made n
  pub gone : b.gone.items ≡ a.gone.items ++ replicate made false
  pub deaths : b.deaths.items ≡ a.deaths.items
  pub places : (m : ℕ) → HasPlaces m a → HasPlaces m b

-- The times are the stamps, with top at each root, carried along the pairs. Those below top show what is gone now.
pub record FindsDeaths (pairs : List (ℕ × ℕ)) (roots : List ℕ) (top : ℕ) (a b : Objects) : Type 0 where
  pub stamps : b.stamps.items ≡ a.stamps.items
  pub carries : Carries pairs (set_each roots top a.stamps.items) b.times.items
  pub settled : AreSettled pairs b.times.items
  pub deaths : death_pairs b.deaths.items ≡ listed 1 top b.times.items a.gone.items
  pub gone_long : length b.gone.items ≡ length a.gone.items
  pub marked : (k : ℕ) → k < length b.gone.items
      → slice_index_or b.gone.items k false ≡ (slice_index_or a.gone.items k false || nat_lt (slice_index b.times.items k) top)
  pub places : HasPlaces (length a.stamps.items) b
