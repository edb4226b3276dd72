-- WHAT A CALL ASKS of the machine in which it is planned or done.
use Rattle.std.specs.Prelude.{ℕ, ◌+◌, ◌<◌, ◌≤◌, ◌^◌, Contains, List, drop, length}
use Rattle.et_base.specs.declared.value.Value.{Value}
use Rattle.et_heap.specs.Objects.{IsHeld}
use Rattle.et_program.specs.Entries.{Linked}
use Rattle.et_state.specs.Sound.{IsSound}
use Rattle.et_state.specs.State.{MachineState, kept_of}
use Rattle.et_state.specs.ThreadRoots.{frame_roots}
use Rattle.et_state.specs.Words.{HasFrame, top}
use Rattle.et_event.specs.BuiltIns.{answering}
use Rattle.et_event.specs.Calls.{arguments_of}
use Rattle.et_event.specs.Moments.{Doing, begins, moment}
use Rattle.et_event.specs.Programs.{HasMachineSlots}
use Rattle.et_event.specs.Sites.{Site}
use Rattle.et_event.specs.Sound.{IsSoundFor}
use Rattle.et_builtins.specs.Plans.{HasCallRoom}
use Rattle.et_builtins.specs.declared.changes.Called.{Called}
use Rattle.et_builtins.specs.declared.plans.Call.{Call}
use Rattle.et_builtins.specs.declared.plans.Callee.{Callee}

-- so many of the topmost operands of a sound state are the arguments
pub record HasArguments (p : Linked) (m : MachineState) (t count : ℕ) : Type 0 where
  pub frame : HasFrame m.guest t
  pub sound : IsSoundFor p (kept_of m)
  pub operands : count ≤ length (top m.guest t).operands

-- .. to a method of the program, and what it returns will fit
pub record IsCallable (p : Linked) (m : MachineState) (t called count : ℕ) : Type 0 where
  pub arguments : HasArguments p m t count
  pub method : called < length p.methods
  pub room : HasCallRoom (moment p m t) called count

-- .. which an invoke in a method of the current class names in a named one
pub record IsCallee (p : Linked) (m : MachineState) (t : ℕ) (callee : Callee) : Type 0 where
  pub callable : IsCallable p m t callee.method callee.count
  pub current : callee.current < length p.classes
  pub named : callee.named < length p.classes

-- the event in which a method is called may be done
pub record MayCall (p : Linked) (m : MachineState) (t : ℕ) (call : Call) : Type 0 where
  pub callable : IsCallable p m t call.method call.count
  pub clock : m.guest.clock < 2 ^ 40
  pub slots : HasMachineSlots p

-- the event of a built-in method may be done, whose arguments are the topmost operands
pub record MayDo (m : MachineState) (call : Called) : Type 0 where
  pub frame : HasFrame m.guest call.thread
  pub sound : IsSound (kept_of m)
  pub clock : m.guest.clock < 2 ^ 40
  pub operands : call.count ≤ length (top m.guest call.thread).operands

-- so many entries fit once they are taken
abbrev pub HasRoomFor : ℕ → MachineState → Called → Type 0
HasRoomFor entries m call = length (drop call.count (top m.guest call.thread).operands) + entries ≤ (top m.guest call.thread).room

-- an object that is held stands in the frame of the caller
pub record StandsThere (m : MachineState) (call : Called) (object : ℕ) : Type 0 where
  pub root : Contains (frame_roots (top m.guest call.thread)) object
  pub held : IsHeld m.heap object

-- what the method does first: these entries stand in the place of its arguments
abbrev pub answered : Linked → MachineState → Called → Site → List Value → Doing
answered p m call at values =
    answering (moment p m call.thread) at (arguments_of (moment p m call.thread) call.count) values (begins (moment p m call.thread))
