-- What an instruction does over lifted frames: it puts a value in the place of operands, or it writes a slot of an object.
use Rattle.std.specs.Prelude.{ℕ, [], ◌∷◌, Bool, true, false}
use Rattle.et_heap.specs.Objects.{Objects}
use Rattle.et_state.specs.Outcome.{Outcome}
use Rattle.et_state.specs.Running.{RunningState, with_frames}
use Rattle.et_state.specs.State.{Kept, MachineState}
use Rattle.et_state.specs.Threads.{FrameState}
use Rattle.et_state.specs.Words.{begun, losing, steps_thread, thread_at}
use Rattle.et_event.specs.declared.rows.HeapRow.{HeapRow}
use Rattle.et_event.specs.declared.rows.HeapRow.TheVariants as row
use Rattle.et_event.specs.Moments.{Moment}
use Rattle.et_event.specs.Sites.{Site}
use Rattle.et_refs.specs.Changes.{MayExchange, MayStore, exchange_outcome, is_number, store_outcome}
use Rattle.et_refs.specs.declared.slots.steps.LiftedChange.{LiftedChange}
use Rattle.et_refs.specs.declared.slots.steps.LiftedChange.TheVariants as change

-- the rows that do so
abbrev pub is_lifted_row : HeapRow → Bool
is_lifted_row row.GetField = true
is_lifted_row row.PutField = true
is_lifted_row (row.LoadElement kind) = true
is_lifted_row (row.StoreElement kind) = true
is_lifted_row row.ArrayLength = true
is_lifted_row other = false

abbrev pub lifted_outcome : Moment → Site → LiftedChange → Outcome Kept
lifted_outcome e at (change.Put x) = exchange_outcome e at x
lifted_outcome e at (change.Store x) = store_outcome e at x

-- what holds of such a change
abbrev pub MayBeLifted : Objects → FrameState → LiftedChange → Type 0
MayBeLifted heap f (change.Put x) = MayExchange heap f x
MayBeLifted heap f (change.Store x) = MayStore heap f x

-- it writes a number
abbrev pub stores_number : LiftedChange → Bool
stores_number (change.Put x) = false
stores_number (change.Store x) = is_number x.value

-- an event was done over the frames of thread t: they are back in the machine, and what they lost is lost
abbrev pub landed_done : ℕ → RunningState → MachineState → MachineState
landed_done t r m = steps_thread (losing (begun m) r.lost) t (with_frames (r.frame ∷ r.below) (thread_at m.guest t)) []
