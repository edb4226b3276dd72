-- What making an object leaves.
use Rattle.std.specs.Prelude.{◌≡◌, ℕ, true, false, ◌⊎◌, List, ◌++◌, length, Option, Some, None}
use Rattle.et_heap.specs.Objects.{ObjectState}
use Rattle.et_state.specs.State.{MachineState}
use Rattle.et_state.specs.Words.{with_new_object}
use Rattle.et_state.specs.declared.records.Record.{Record}
use Rattle.et_event.specs.Moments.{Doing, fits_heap}

-- The objects of the machine are those to which the event has come, and its records stand behind those that were there,
-- where all fits. Where it doesn't fit, nothing has changed.
abbrev pub MakesObject : Doing → Option ℕ → MachineState → MachineState → List Record → List Record → Type 0
MakesObject d (Some o) m m' out out' = (fits_heap d.state.heap ≡ true) × (o ≡ length m.heap) × (m' ≡ record m { heap = d.state.heap }) × (out' ≡ out ++ d.records)
MakesObject d None m m' out out' = (fits_heap d.state.heap ≡ false) × (m' ≡ m) × (out' ≡ out)

-- Where memory was wanting: the machine may have the object, to which nothing refers
abbrev pub MayHaveMade : ObjectState → MachineState → MachineState → Type 0
MayHaveMade x m m' = (m' ≡ m) ⊎ (m' ≡ with_new_object m x)
