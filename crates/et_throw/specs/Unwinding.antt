-- Where an exception is unwound.
use Rattle.std.specs.Prelude.{◌≡◌, ℕ, ◌+◌, ◌<◌, ◌^◌, Bool, true, false, List, [], ◌∷◌, length, Option, Some, None, if◌then◌else◌, unwrap_or}
use Rattle.et_program.specs.Entries.{Linked}
use Rattle.et_state.specs.Threads.{with_pending, with_top_of, without_top}
use Rattle.et_state.specs.ThreadRoots.{frame_roots}
use Rattle.et_heap.specs.Objects.{IsHeld, object_at, new_object, has_room}
use Rattle.et_state.specs.declared.class_state.ClassState.TheVariants.{Failed}
use Rattle.et_state.specs.State.{Kept, MachineState, kept_of}
use Rattle.et_state.specs.Outcome.{Outcome}
use Rattle.et_state.specs.Words.{HasFrame, thread_at, with_thread, top, ticked, begun, steps_guest, with_class_state, with_new_object}
use Rattle.et_state.specs.declared.records.Record.{Record}
use Rattle.et_state.specs.declared.records.Record.TheVariants.{Unwind}
use Rattle.et_event.specs.Moments.{Moment, Doing, current_frame, begins, told}
use Rattle.et_event.specs.Monitors as table
use Rattle.et_event.specs.Sound.{IsSoundFor}
use Rattle.et_event.specs.Throw.{dropped, handled, unwound, unwound_clinit}
use Rattle.et_event.specs.Locks.{owns_at, leaving_lock}
use Rattle.et_throw.specs.declared.failing.Thrown.{Thrown}

-- a thread with a frame in which an exception is to be unwound, in a sound state
pub record Unwinds (p : Linked) (m : MachineState) (t o : ℕ) : Type 0 where
  pub sound : IsSoundFor p (kept_of m)
  pub clock : m.guest.clock < 2 ^ 40
  pub frame : HasFrame m.guest t
  pub pending : (thread_at m.guest t).pending ≡ Some o
  pub held : IsHeld m.heap o

-- .. whose class is this
pub record UnwindsThrown (p : Linked) (m : MachineState) (t : ℕ) (x : Thrown) : Type 0 where
  pub unwinds : Unwinds p m t x.exception
  pub thrown : x.class ≡ (object_at m.heap x.exception).class
  pub known : x.class < length p.classes

-- the event in which the frame of a method is left: that of a <clinit> fails its class
abbrev pub method_left : Moment → ℕ → Option ℕ → Outcome Kept
method_left e o None = unwound e o
method_left e o (Some class) = unwound_clinit e class o

-- the monitor of a lock is left once, where the thread owns it
abbrev pub leaving_if_owned : ℕ → Option table.Lock → MachineState → MachineState
leaving_if_owned t None m = m
leaving_if_owned t (Some lock) m = if owns_at t lock m then leaving_lock lock m else m

-- the frame of an initializer is dropped; one whose <clinit> was entered gives a record
abbrev pub initializer_left : Moment → Bool → ℕ → Doing
initializer_left e true o = told (Unwind (begins e).state.guest.clock e.thread (unwrap_or (current_frame e).method 0) o) (dropped e (begins e))
initializer_left e false o = dropped e (begins e)

-- the state in which the handler at a pc has caught an exception
abbrev pub handled_state : MachineState → ℕ → ℕ → ℕ → Kept
handled_state m t o handler = record { heap = m.heap; guest = with_thread (ticked m.guest) t (with_pending None (with_top_of (thread_at m.guest t) (handled (top m.guest t) handler o))) }

-- the records of such a frame
abbrev pub unwind_records : MachineState → ℕ → Bool → ℕ → List Record
unwind_records m t true o = Unwind (m.guest.clock + 1) t (unwrap_or (top m.guest t).method 0) o ∷ []
unwind_records m t false o = []

-- an event has begun, the frame was dropped, and the class failed
abbrev pub initializer_dropped : ℕ → ℕ → MachineState → MachineState
initializer_dropped t class m =
    steps_guest (begun m) (with_class_state (with_thread (ticked m.guest) t (without_top (thread_at m.guest t))) class Failed) (frame_roots (top m.guest t))

-- an object is made where it fits, and nothing has changed where it does not
abbrev pub IsThrowMade : ℕ → ℕ → Option ℕ → MachineState → MachineState → Type 0
IsThrowMade class slots (Some o) m m' = (has_room m.heap 1 slots ≡ true) × (o ≡ length m.heap) × (m' ≡ with_new_object m (new_object class 0 slots))
IsThrowMade class slots None m m' = (has_room m.heap 1 slots ≡ false) × (m' ≡ m)
