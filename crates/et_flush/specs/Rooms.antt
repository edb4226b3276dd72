-- What the room of a flush shows.
use Rattle.std.specs.Prelude.{ℕ, ◌≤◌, List}
use Rattle.et_graph.specs.Listing.{death_pairs}
use Rattle.et_flush.specs.declared.room.FlushRoom.TheInside.{Inside}
use Rattle.et_flush.specs.Works.{HasWorkPlaces}

-- up to which number it has places for blocks, the number of held objects for which it has places, and the deaths of the
-- newest flush
pub record Room : Type 0 where
  pub numbers : ℕ
  pub places : ℕ
  pub deaths : List (ℕ × ℕ)

abbrev pub room_of : Inside → Room
room_of r = record { numbers = r.numbers; places = r.places; deaths = death_pairs r.work.deaths.items }

-- no more objects are held than have numbers
pub record HasRoom (r : Inside) : Type 0 where
  pub few : r.places ≤ r.numbers
  pub work : HasWorkPlaces r.numbers r.places r.work
