-- WHAT AN EVENT ASKS that leaves a frame, or gives up its operands.
use Rattle.std.specs.Prelude.{ℕ, ◌+◌, ◌<◌, ◌^◌, length}
use Rattle.et_state.specs.Sound.{IsSound}
use Rattle.et_state.specs.State.{MachineState, kept_of}
use Rattle.et_state.specs.Words.{HasFrame, top}

-- the event may be done, and what stands in the frame has room on the list of the lost objects
pub record MayLeave (m : MachineState) (t : ℕ) : Type 0 where
  pub frame : HasFrame m.guest t
  pub sound : IsSound (kept_of m)
  pub clock : m.guest.clock < 2 ^ 40
  pub small : length (top m.guest t).locals + length (top m.guest t).operands < 2 ^ 17
