-- Reported objects, which a state still has, and the flush that reports them.
use Rattle.std.specs.Prelude.{ℕ, ◌+◌, ◌≤◌, Bool, if◌then◌else◌, List, [], ◌∷◌, Option, Some, None, length}
use Rattle.et_graph.specs.Steps.{Step}
use Rattle.et_heap.specs.Objects.{ObjectState, Objects, IsHeld}
pub use Rattle.et_heap.specs.Remaining.{kept_referent, left_place, remaining}
pub use Rattle.et_state.specs.Enqueuing.{flushed_heap}
use Rattle.et_state.specs.State.{Kept, State}
use Rattle.et_state.specs.Roots.{graph}

-- a step over what is kept, as one over all of a state whose reported objects are these
abbrev pub whole_step : Objects → Kept → List ℕ → List ℕ → Step
whole_step reported x fresh lost = record { after = graph (record { kept = x; reported = reported }); fresh = fresh; lost = lost }

-- no object is both held and reported
pub record IsPast (heap reported : Objects) : Type 0 where
  pub within : length reported ≤ length heap
  pub apart : (o : ℕ) → IsHeld heap o → ¬ IsHeld reported o

-- A flush adds the objects that aren't here to the reported ones.
abbrev pub first_of : Option ObjectState → Option ObjectState → Option ObjectState
first_of None y = y
first_of (Some x) y = Some x

abbrev pub reporting : (ℕ → Bool) → ℕ → Objects → Objects → Objects
reporting here k [] rs = []
reporting here k (x ∷ xs) [] = (if here k then None else x) ∷ reporting here (k + 1) xs []
reporting here k (x ∷ xs) (r ∷ rs) = first_of r (if here k then None else x) ∷ reporting here (k + 1) xs rs

-- a state in which all that isn't here is reported, and weak references to it are null
abbrev pub cleared_state : (ℕ → Bool) → State → State
cleared_state here s = record {
  kept = record { heap = remaining here 0 s.kept.heap; guest = s.kept.guest };
  reported = reporting here 0 s.kept.heap s.reported;
}

-- A state after a flush of all that isn't here: the references that lost their referents wait in their queues as well.
abbrev pub flushed : (ℕ → Bool) → State → State
flushed here s = record {
  kept = record { heap = flushed_heap here s.kept.heap; guest = s.kept.guest };
  reported = reporting here 0 s.kept.heap s.reported;
}
