-- The links of waiting lists.
use Rattle.std.specs.Prelude.{◌≡◌, ℕ, ◌==◌, ◌<◌, Bool, true, false, List, [], ◌∷◌, Option, Some, None, Contains, length}
use Rattle.et_heap.specs.Stored.{Stored, StoredPlaces, stored_at, IsStored, with_stored_at, with_next, with_last, without_first}

abbrev pub next_of : StoredPlaces → ℕ → Option ℕ
next_of places o = (stored_at places o).next

abbrev pub last_of : StoredPlaces → ℕ → Option ℕ
last_of places q = (stored_at places q).last

abbrev pub waiting_of : StoredPlaces → ℕ → List ℕ
waiting_of places q = (stored_at places q).state.waiting

-- THE LINKS OF A LIST

-- from p on, the links lead over these references in order, to l
abbrev pub IsChain : (ℕ → Option ℕ) → ℕ → List ℕ → ℕ → Type 0
IsChain next p [] l = p ≡ l
IsChain next p (r ∷ rs) l = (next p ≡ Some r) × IsChain next r rs l

-- The links lead from p over these references to l, and to none where there are no references.
abbrev pub IsLeft : (ℕ → Option ℕ) → Option ℕ → Option ℕ → List ℕ → Type 0
IsLeft next p l [] = p ≡ None
IsLeft next None l (r ∷ rs) = ⊥
IsLeft next (Some p) None (r ∷ rs) = ⊥
IsLeft next (Some p) (Some l) (r ∷ rs) = IsChain next p (r ∷ rs) l

-- The links of a list lead once round, from its last reference.
abbrev pub IsRing : (ℕ → Option ℕ) → Option ℕ → List ℕ → Type 0
IsRing next l rs = IsLeft next l l rs

-- no reference stands twice in the list
abbrev pub StandOnce : List ℕ → Type 0
StandOnce [] = Unit {0}
StandOnce (r ∷ rs) = ¬ Contains rs r × StandOnce rs

-- each reference that waits in a queue stands at its number
abbrev pub AllStand : StoredPlaces → ℕ → Type 0
AllStand places q = (r : ℕ) → Contains (waiting_of places q) r → IsStored places r

-- What is true of all lists: a reference waits in one queue at most, and once; and the links of a list lead round as
-- long as none of its references was taken out.
pub record AreLinked (places : StoredPlaces) : Type 0 where
  pub made : (q r : ℕ) → Contains (waiting_of places q) r → r < length places
  pub once : (q : ℕ) → StandOnce (waiting_of places q)
  pub apart : (q u r : ℕ) → Contains (waiting_of places q) r → Contains (waiting_of places u) r → q ≡ u
  pub marked : (q r : ℕ) → Contains (waiting_of places q) r → IsStored places r → (stored_at places r).state.waits ≡ true
  pub rings : (q : ℕ) → AllStand places q → IsRing (next_of places) (last_of places q) (waiting_of places q)

-- HOW THEY ARE CHANGED

abbrev pub stored_with : (Stored → Stored) → ℕ → StoredPlaces → StoredPlaces
stored_with f o places = with_stored_at places o (f (stored_at places o))

-- r is linked in behind l, the last reference of q so far
abbrev pub linked_behind : Option ℕ → ℕ → ℕ → StoredPlaces → StoredPlaces
linked_behind None q r places = stored_with (with_last r) q (stored_with (with_next (Some r)) r places)
linked_behind (Some l) q r places = stored_with (with_last r) q (stored_with (with_next (Some r)) l (stored_with (with_next (next_of places l)) r places))

abbrev pub linked : ℕ → ℕ → StoredPlaces → StoredPlaces
linked q r places = linked_behind (last_of places q) q r places

-- The first reference of q is the one behind l, the last.
abbrev pub first_behind : StoredPlaces → Option ℕ → Option ℕ
first_behind places None = None
first_behind places (Some l) = next_of places l

-- f, the first reference of q, is linked out, and l is the last; only f waited where they are one
abbrev pub links_without : Bool → ℕ → ℕ → ℕ → StoredPlaces → StoredPlaces
links_without true l f q places = stored_with (with_next None) f (stored_with (without_first None) q places)
links_without false l f q places = stored_with (with_next None) f (stored_with (without_first (Some l)) q (stored_with (with_next (next_of places f)) l places))

abbrev pub without_link : Option ℕ → Option ℕ → ℕ → StoredPlaces → StoredPlaces
without_link (Some l) (Some f) q places = links_without (f == l) l f q places
without_link (Some l) None q places = places
without_link None f q places = places

abbrev pub first_unlinked : ℕ → StoredPlaces → StoredPlaces
first_unlinked q places = without_link (last_of places q) (first_behind places (last_of places q)) q places
