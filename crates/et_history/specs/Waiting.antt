-- WHO WAITS: a reference waits where it stands in the list of a queue.
use Rattle.std.specs.Prelude.{ℕ, Contains}
use Rattle.et_state.specs.State.{State}
use Rattle.et_history.specs.Allocations.{object_in}

-- the reference stands in the list of the queue, held or reported
abbrev pub WaitsIn : State → (queue reference : ℕ) → Type 0
WaitsIn s queue reference = Contains (object_in s queue).waiting reference

-- .. in that of some queue
abbrev pub WaitsSomewhere : State → ℕ → Type 0
WaitsSomewhere s reference = (queue : ℕ) × WaitsIn s queue reference
