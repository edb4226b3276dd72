-- The state of the guest.
use Rattle.std.specs.Prelude.{ℕ, List}
use Rattle.et_base.specs.declared.value.Value.{Value}
use Rattle.et_heap.specs.declared.monitor.Monitor.{Monitor}
use Rattle.et_state.specs.declared.class_state.ClassState.{ClassState}
pub use Rattle.et_heap.specs.Objects.{ObjectState, Objects}
pub use Rattle.et_state.specs.Threads.{FrameState, ThreadState}
use Rattle.et_state.specs.Texts.{Texts}

-- all of a state but its objects
pub record GuestState : Type 0 where
  -- the number of the last event
  pub clock : ℕ
  -- the static slots, by their numbers
  pub statics : List Value
  -- the threads in order of start, by their numbers
  pub threads : List ThreadState
  -- how far each class is with its initialization, and its monitor, by the number of the class
  pub classes : List ClassState
  pub class_monitors : List Monitor
  -- the strings of constants (JVMS 5.1), each with its object, in the order in which they were made
  pub interned : List (List ℕ × ℕ)
  -- the texts that strings and builders were given; those of constants are their bytes
  pub texts : Texts

-- What a machine keeps. Each object stands in the heap at its number, and None where it was reported.
pub record Kept : Type 0 where
  pub heap : Objects
  pub guest : GuestState

-- A state: what a machine keeps, and the objects that were reported, each at its number, as they were then.
pub record State : Type 0 where
  pub kept : Kept
  pub reported : Objects

-- The value of a machine: what it keeps, and the objects that the event has lost so far.
pub record MachineState : Type 0 where
  pub heap : Objects
  pub guest : GuestState
  pub lost : List ℕ

abbrev pub kept_of : MachineState → Kept
kept_of m = record { heap = m.heap; guest = m.guest }
