-- The order in which a flush takes the objects.
use Rattle.std.specs.Prelude.{◌≡◌, ℕ, ◌+◌, ◌-◌, ◌<◌, ◌≤◌, List, [], ◌∷◌, length, Contains, vec_capacity, slice_index, slice_index_or}
use Rattle.et_graph.specs.declared.objects.Death.{Death}
use Rattle.et_graph.specs.declared.search.Room.{Room}

-- the objects from number k on, each with its time
abbrev pub sources : ℕ → List ℕ → List Death
sources k [] = []
sources k (t ∷ times) = record { object = k; time = t } ∷ sources (k + 1) times

-- the object is one of the first n
abbrev pub IsOneOf : ℕ → ℕ → Type 0
IsOneOf n o = (0 < o) × (o ≤ n)

-- each object of which P holds is there, and none comes after one with a smaller time
pub record IsOrder (P : ℕ → Type 0) (times : List ℕ) (order : List Death) : Type 0 where
  pub each : (s : Death) → Contains order s → P s.object
  pub all : (o : ℕ) → P o
      → (k : ℕ) × (k < length order) × ((d : Death) → (slice_index_or order k d).object ≡ o)
  pub falls : (i j : ℕ) (d : Death) → i ≤ j → j < length order
      → slice_index times ((slice_index_or order j d).object - 1)
      ≤ slice_index times ((slice_index_or order i d).object - 1)

-- there is room for n objects
pub record HasSearchRoom (n : ℕ) (room : Room) : Type 0 where
  pub seen : n ≤ vec_capacity room.seen
  pub work : n ≤ vec_capacity room.work
  pub order : n ≤ vec_capacity room.order
