-- What making arrays of some dimensions leaves, in an event under way: all of them are in the first one.
use Rattle.std.specs.Prelude.{◌≡◌, ℕ, ◌<◌, ◌≤◌, List, Contains, length}
use Rattle.et_heap.specs.Objects.{Objects, IsHeld, at, object_at}
use Rattle.et_heap.specs.Refs.{refs_of}
use Rattle.et_state.specs.State.{Kept}
use Rattle.et_state.specs.Moves.{IsUnderWay}
use Rattle.et_event.specs.Moments.{Doing}

-- the object is in a slot of one that was made before it, but not before object k
pub record IsTied (heap : Objects) (k o : ℕ) : Type 0 where
  pub parent : ℕ
  pub low : k ≤ parent
  pub high : parent < o
  pub ties : Contains (refs_of (object_at heap parent).slots) o

-- from d the event came to x; it made objects, of which each but the first is in one that was made before it, and changed
-- nothing else
pub record HasMadeArrays (s : Kept) (lost : List ℕ) (d x : Doing) : Type 0 where
  pub way : IsUnderWay s x.state lost
  pub guest : x.state.guest ≡ d.state.guest
  pub grown : length d.state.heap < length x.state.heap
  pub first : IsHeld x.state.heap (length d.state.heap)
  pub below : (o : ℕ) → o < length d.state.heap → at x.state.heap o ≡ at d.state.heap o
  pub tied : (o : ℕ) → length d.state.heap < o → o < length x.state.heap → IsTied x.state.heap (length d.state.heap) o
