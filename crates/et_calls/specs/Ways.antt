-- What an event has done so far, with the machine.
use Rattle.std.specs.Prelude.{◌≡◌, length}
use Rattle.et_state.specs.State.{Kept, MachineState, kept_of}
use Rattle.et_state.specs.Moves.{IsOnWay}
use Rattle.et_event.specs.Moments.{Doing}

-- from the sound state s an event that made no object has come to what the machine keeps, which is this
pub record Came (s : Kept) (d : Doing) (m : MachineState) : Type 0 where
  pub kept : kept_of m ≡ d.state
  pub way : IsOnWay s m
  pub made : length m.heap ≡ length s.heap
