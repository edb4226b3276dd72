-- `monitorenter` and `monitorexit` of the object on top of the operands: what they ask, and what they change.
use Rattle.std.specs.Prelude.{◌≡◌, ℕ, ◌<◌, ◌^◌, [], Some}
use Rattle.et_heap.specs.Objects.{IsHeld}
use Rattle.et_heap.specs.Refs.{refs_of_value}
use Rattle.et_program.specs.Entries.{Linked}
use Rattle.et_state.specs.State.{MachineState, kept_of}
use Rattle.et_state.specs.Threads.{at_pc, operand_of, popped}
use Rattle.et_state.specs.Words.{HasFrame, begun, steps_top, top}
use Rattle.et_event.specs.Sound.{IsSoundFor}
use Rattle.et_event.specs.Tops.{entry_reference}

-- the event may be done
pub record MayLock (p : Linked) (m : MachineState) (t o : ℕ) : Type 0 where
  pub frame : HasFrame m.guest t
  pub sound : IsSoundFor p (kept_of m)
  pub clock : m.guest.clock < 2 ^ 40
  pub operand : entry_reference (operand_of (top m.guest t) 0) ≡ Some (Some o)
  pub held : IsHeld m.heap o

-- an event has begun, and the operand on top was taken
abbrev pub taken : ℕ → MachineState → MachineState
taken t m = steps_top (begun m) t (popped 1 (top (begun m).guest t)) (refs_of_value (operand_of (top (begun m).guest t) 0))

-- .. and the frame has gone on at a pc
abbrev pub gone_past : ℕ → ℕ → MachineState → MachineState
gone_past t next m = steps_top (taken t m) t (at_pc next (top (taken t m).guest t)) []
