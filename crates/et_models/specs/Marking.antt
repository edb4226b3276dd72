-- What a minor collection marks. The contracts of private functions alone speak of it.
use Rattle.std.specs.Prelude.{◌≡◌, ◌≢◌, ℕ, ◌+◌, ◌<◌, ◌⊎◌, Bool, false, List, length, Contains, Some, slice_index_or}
use Rattle.std.specs.List.{count_by}
use Rattle.std.specs.BTreeMap.{BTreeMap, get}
use Rattle.std.specs.Ordering.{nat_cmp}
use Rattle.et_graph.specs.Graph.{Graph, IsReached}
use Rattle.et_models.specs.declared.places.Place.{Place}
use Rattle.et_models.specs.declared.places.Place.TheVariants.{Nursery, Kept, Old}
use Rattle.et_models.specs.Tables.{flag_at}
use Rattle.et_models.specs.Places.{place_at, is_nursery}

-- how many entries are of the nursery
abbrev pub young : List Place → ℕ
young places = count_by is_nursery places

-- a slot refers to the object
abbrev pub Refers : BTreeMap ℕ ℕ → ℕ → Type 0
Refers slots target = (slot : ℕ) × (get nat_cmp slots slot ≡ Some target)

-- the object, which E holds of, was of the nursery, is kept, and waits to be visited
pub record IsMarkedFrom (E : ℕ → Type 0) (places places' : List Place) (work' : List ℕ) (o : ℕ) : Type 0 where
  pub was : place_at places o ≡ Nursery
  pub is : place_at places' o ≡ Kept
  pub by : E o
  pub waits : Contains work' o

-- only such objects are marked
pub record MarksFrom (E : ℕ → Type 0) (places : List Place) (work : List ℕ) (places' : List Place) (work' : List ℕ) : Type 0 where
  pub as_long : length places' ≡ length places
  pub each : (o : ℕ) → (place_at places' o ≡ place_at places o) ⊎ IsMarkedFrom E places places' work' o
  pub grows : (o : ℕ) → Contains work o → Contains work' o
  pub only : (o : ℕ) → Contains work' o → Contains work o ⊎ IsMarkedFrom E places places' work' o
  pub spent : length work' + young places' ≡ length work + young places

-- none of these is left in the nursery
abbrev pub AllMarked : (ℕ → Type 0) → List Place → Type 0
AllMarked E places = (o : ℕ) → E o → place_at places o ≢ Nursery

-- an object of the nursery that isn't dead
pub record IsSeed (nursery : List ℕ) (dead : List Bool) (o : ℕ) : Type 0 where
  pub among : Contains nursery o
  pub lives : flag_at dead o ≡ false

-- A SEARCH from the objects that wait, along the slots of each object

-- a slot of the object refers to the other
pub record NamesInSlot (slots : List (BTreeMap ℕ ℕ)) (from to : ℕ) : Type 0 where
  pub own : BTreeMap ℕ ℕ
  pub within : from < length slots
  pub stands : own ≡ slice_index_or slots from own
  pub refers : Refers own to

-- kept, or of the old space
abbrev pub Stays : List ℕ → List Place → ℕ → Type 0
Stays space places o = (place_at places o ≡ Kept) ⊎ Contains space o

-- the graph has what slots say of the nursery, and reaches the old space; nothing was kept at first
pub record Draws (g : Graph) (slots : List (BTreeMap ℕ ℕ)) (space : List ℕ) (start : List Place) : Type 0 where
  pub pairs : (u t : ℕ) → NamesInSlot slots u t → place_at start t ≡ Nursery → Contains g.pairs (u, t)
  pub old : (o : ℕ) → Contains space o → IsReached g o
  pub fresh : (o : ℕ) → place_at start o ≢ Kept

-- what is kept is reached, and what an object that stays refers to is kept, unless the object still waits
pub record IsMarking (g : Graph) (slots : List (BTreeMap ℕ ℕ)) (space : List ℕ) (start places : List Place) (work : List ℕ) : Type 0 where
  pub each : (o : ℕ) → (place_at places o ≡ place_at start o) ⊎ ((place_at start o ≡ Nursery) × (place_at places o ≡ Kept) × IsReached g o)
  pub waits : (o : ℕ) → Contains work o → Stays space places o
  pub rooted : (o : ℕ) → Contains g.roots o → Stays space places o
  pub as_long : length places ≡ length start
  pub closed : (u t : ℕ) → Stays space places u → NamesInSlot slots u t → Contains work u ⊎ (place_at places t ≢ Nursery)

-- a search may begin: the graph's roots are the live objects of the nursery and the old space, and each object of that
-- with a slot that refers to the nursery is noted
pub record BeginsMarking (g : Graph) (nursery space notes : List ℕ) (dead : List Bool) (slots : List (BTreeMap ℕ ℕ)) (start : List Place) : Type 0 where
  pub draws : Draws g slots space start
  pub named : (u t : ℕ) → Contains g.pairs (u, t) → NamesInSlot slots u t × (place_at start t ≡ Nursery)
  pub young : (o : ℕ) → Contains nursery o → place_at start o ≡ Nursery
  pub roots : (o : ℕ) → Contains g.roots o → IsSeed nursery dead o ⊎ Contains space o
  pub seeds : (o : ℕ) → IsSeed nursery dead o → IsReached g o
  pub old : (o : ℕ) → Contains space o → place_at start o ≡ Old
  pub only_old : (o : ℕ) → place_at start o ≡ Old → Contains space o
  pub noted : (u t : ℕ) → Contains space u → NamesInSlot slots u t → place_at start t ≡ Nursery → Contains notes u

-- what is of the nursery is kept where it is reached, and stays there where not
pub record IsFound (g : Graph) (start places : List Place) : Type 0 where
  pub as_long : length places ≡ length start
  pub kept : (o : ℕ) → place_at places o ≡ Kept → IsReached g o
  pub reached : (o : ℕ) → place_at start o ≡ Nursery → IsReached g o → place_at places o ≡ Kept
  pub others : (o : ℕ) → place_at start o ≢ Nursery → place_at places o ≡ place_at start o
  pub left : (o : ℕ) → place_at start o ≡ Nursery → (place_at places o ≡ Nursery) ⊎ (place_at places o ≡ Kept)
