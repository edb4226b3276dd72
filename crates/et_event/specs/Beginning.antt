-- What holds where an event begins.
use Rattle.std.specs.Prelude.{ℕ, ◌<◌, ◌^◌}
use Rattle.et_program.specs.Entries.{Linked}
use Rattle.et_state.specs.State.{MachineState, kept_of}
use Rattle.et_state.specs.Words.{IsUnended}
use Rattle.et_event.specs.Runnable.{IsRunnable}
use Rattle.et_event.specs.Sound.{IsSoundFor}

-- the machine may do the event of thread t
pub record BeginsEvent (p : Linked) (m : MachineState) (t : ℕ) : Type 0 where
  pub program : IsRunnable p
  pub sound : IsSoundFor p (kept_of m)
  pub clock : m.guest.clock < 2 ^ 40
  pub thread : IsUnended m.guest t
