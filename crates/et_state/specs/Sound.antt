-- Sound states.
use Rattle.std.specs.Prelude.{◌≡◌, ℕ, ◌<◌, Some, Contains, length}
use Rattle.et_heap.specs.Objects.{IsHeld, object_at}
use Rattle.et_heap.specs.Refs.{pairs_of}
use Rattle.et_state.specs.State.{Kept}
use Rattle.et_state.specs.Roots.{roots_of}

-- What is in a root place, and the slots, the referent, the queue and the waiting list of an object that is held, name only
-- what was made and was not reported.
pub record IsSound (s : Kept) : Type 0 where
  -- no object has the number 0
  pub room : 0 < length s.heap
  pub none : ¬ IsHeld s.heap 0
  pub roots : (o : ℕ) → Contains (roots_of s.guest) o → IsHeld s.heap o
  -- in slots, as a queue or waiting in one
  pub slots : (u o : ℕ) → Contains (pairs_of s.heap) (u, o) → IsHeld s.heap o
  pub referents : (u o : ℕ) → (object_at s.heap u).referent ≡ Some o → IsHeld s.heap o
