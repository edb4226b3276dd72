-- How objects are kept: each with the links of waiting lists. What a heap shows of them has no links.
use Rattle.std.specs.Prelude.{ℕ, ◌+◌, ◌-◌, ◌≤◌, ◌&&◌, Bool, nat_le, List, map, is_some, Option, Some, None, length, slice_index_or, slice_set}
use Rattle.std.specs.List.{sum_by}
use Rattle.std.specs.Option.{option_to_list}
use Rattle.et_heap.specs.Objects.{ObjectState, Objects, no_object, most_objects, most_slots}
use Rattle.et_heap.specs.Queues.{with_waits, with_one_waiting, without_first_waiting}

-- An object with its two links: to the last of the references that wait in it, and, where it waits itself, to the one
-- behind it. Behind the last one comes the first.
pub record Stored : Type 0 where
  pub state : ObjectState
  pub last : Option ℕ
  pub next : Option ℕ

-- each object at its number, as in a heap
abbrev pub StoredPlaces : Type 0
StoredPlaces = List (Option Stored)

abbrev pub nothing_stored : Stored
nothing_stored = record { state = no_object; last = None; next = None }

-- what stands at a number
abbrev pub stored_in : StoredPlaces → ℕ → Option Stored
stored_in places o = slice_index_or places o None

abbrev pub as_stored : Option Stored → Stored
as_stored None = nothing_stored
as_stored (Some x) = x

abbrev pub stored_at : StoredPlaces → ℕ → Stored
stored_at places o = as_stored (stored_in places o)

abbrev pub is_stored : Option Stored → Type 0
is_stored None = ⊥
is_stored (Some x) = Unit {0}

abbrev pub IsStored : StoredPlaces → ℕ → Type 0
IsStored places o = is_stored (stored_in places o)

-- o is the first number from k on at which an object stands
pub record IsNextStored (places : StoredPlaces) (k o : ℕ) : Type 0 where
  pub held : IsStored places o
  pub from : k ≤ o
  pub first : (u : ℕ) → k ≤ u → IsStored places u → o ≤ u

abbrev pub with_stored_at : StoredPlaces → ℕ → Stored → StoredPlaces
with_stored_at places o x = slice_set places o (Some x)

abbrev pub without_stored_at : StoredPlaces → ℕ → StoredPlaces
without_stored_at places o = slice_set places o None

-- WHAT IS CHANGED OF ONE OBJECT

abbrev pub on_state : (ObjectState → ObjectState) → Stored → Stored
on_state f x = record x { state = f x.state }

-- an object with no links
abbrev pub unlinked : ObjectState → Stored
unlinked x = record { state = x; last = None; next = None }

-- what has a reference behind it waits
abbrev pub with_next : Option ℕ → Stored → Stored
with_next n x = record x { state = with_waits (is_some n) x.state; next = n }

-- one reference more, which is the last one now
abbrev pub with_last : ℕ → Stored → Stored
with_last r x = record x { state = with_one_waiting r x.state; last = Some r }

-- without the first reference; n is the last one still, or there is none
abbrev pub without_first : Option ℕ → Stored → Stored
without_first n x = record x { state = without_first_waiting x.state; last = n }

-- COUNTS

abbrev pub slots_stored : Option Stored → ℕ
slots_stored None = 0
slots_stored (Some x) = length x.state.slots

abbrev pub stored_slots : StoredPlaces → ℕ
stored_slots places = sum_by slots_stored places

abbrev pub ones_stored : Option Stored → ℕ
ones_stored None = 0
ones_stored (Some x) = 1

abbrev pub stored_count : StoredPlaces → ℕ
stored_count places = sum_by ones_stored places

abbrev pub referents_stored : Option Stored → ℕ
referents_stored None = 0
referents_stored (Some x) = length (option_to_list x.state.referent)

abbrev pub stored_referents : StoredPlaces → ℕ
stored_referents places = sum_by referents_stored places

-- so many objects more, with so many slots in all, may be made
abbrev pub has_stored_room : StoredPlaces → ℕ → ℕ → Bool
has_stored_room places objects slots = nat_le (length places - 1 + objects) most_objects && nat_le (stored_slots places + slots) most_slots

-- WHAT A HEAP SHOWS

abbrev pub state_in : Option Stored → Option ObjectState
state_in None = None
state_in (Some x) = Some x.state

abbrev pub states_of : StoredPlaces → Objects
states_of places = map state_in places
