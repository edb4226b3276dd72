-- WHAT HOLDS OF A SOUND STATE besides that what is referred to is held, and that its objects fit. Each word that changes a
-- state keeps it, also in the midst of an event.
use Rattle.std.specs.Prelude.{◌≡◌, ℕ, ◌<◌, ◌≤◌, ◌^◌, false, List, length, All, Option, Some, None, IsSome}
use Rattle.et_base.specs.declared.value.Value.{Value}
use Rattle.et_code.specs.Bodies.{Body}
use Rattle.et_program.specs.Entries.{Linked, method_at, is_static}
use Rattle.et_heap.specs.Objects.{ObjectState, IsHeld, at}
use Rattle.et_state.specs.Threads.{FrameState, ThreadState, most_frames, most_threads}
use Rattle.et_state.specs.declared.class_state.ClassState.TheVariants.{Untouched}
use Rattle.et_state.specs.State.{Kept}
use Rattle.et_state.specs.Words.{thread_at, HasFrame}
use Rattle.et_event.specs.Frames.{first_reference}
use Rattle.et_event.specs.Initialization.{state_of}
use Rattle.et_event.specs.Moments.{Moment, Doing, current_frame}
use Rattle.et_event.specs.Monitors.{Lock, OfObject, OfClass, monitor_of}
use Rattle.et_event.specs.Sites.{Site, code_of_frame}
use Rattle.et_event.specs.Sound.{IsPc, AreSoundFrames, HasThreadObject, IsSoundObject, IsSoundMonitor, IsSoundThread, IsSoundClassState, IsSoundStatic, IsSoundFor}

pub record IsWellFormed (p : Linked) (s : Kept) : Type 0 where
  pub clock : s.guest.clock ≤ 2 ^ 40
  pub objects : (o : ℕ) (x : ObjectState) → at s.heap o ≡ Some x → IsSoundObject p x × IsSoundMonitor s.guest x.monitor
  pub threads : (t : ℕ) → t < length s.guest.threads → IsSoundThread p s t
  -- the Thread object of a thread that has not ended was made
  pub thread_objects : (t o : ℕ) → t < length s.guest.threads → (thread_at s.guest t).ended ≡ false → (thread_at s.guest t).object ≡ Some o → o < length s.heap
  pub few_threads : length s.guest.threads ≤ most_threads
  pub entry : (thread_at s.guest 0).entered ≡ false → (thread_at s.guest 0).ended ≡ false → IsSome (thread_at s.guest 0).entry
  pub classes : (length s.guest.classes ≡ length p.classes) × All (IsSoundClassState s.guest) s.guest.classes
  pub class_monitors : (length s.guest.class_monitors ≡ length p.classes) × All (IsSoundMonitor s.guest) s.guest.class_monitors
  pub statics : (length s.guest.statics ≡ length p.statics) × ((i : ℕ) → i < length p.statics → IsSoundStatic p s.guest i)

-- so far an event has come to a well-formed state, and its thread was started
pub record IsUnderWayAt (e : Moment) (d : Doing) : Type 0 where
  pub well : IsWellFormed e.program d.state
  pub thread : e.thread < length d.state.guest.threads

-- .. some classes went on with their initialization since d, and the threads are the same
pub record IsFurther (e : Moment) (d x : Doing) : Type 0 where
  pub well : IsWellFormed e.program x.state
  pub threads : x.state.guest.threads ≡ d.state.guest.threads
  pub touched : (k : ℕ) → (state_of d k ≡ Untouched → ⊥) → state_of x k ≡ Untouched → ⊥

-- a thread does an instruction of its topmost frame, in a sound state
pub record StandsAt (e : Moment) (at : Site) : Type 0 where
  pub sound : IsSoundFor e.program e.before
  pub clock : e.before.guest.clock < 2 ^ 40
  pub frame : HasFrame e.before.guest e.thread
  pub runs : (current_frame e).method ≡ None → ⊥
  pub operands : length (current_frame e).operands ≤ (current_frame e).room
  pub next : IsPc (code_of_frame e.program (current_frame e)) at.next

-- thread t may become x
pub record MayBeThread (p : Linked) (s : Kept) (t : ℕ) (x : ThreadState) : Type 0 where
  pub frames : AreSoundFrames p x.frames
  pub few_frames : length x.frames ≤ most_frames
  pub object : 0 < t → x.ended ≡ false → HasThreadObject p s x.object
  pub made : (o : ℕ) → x.ended ≡ false → x.object ≡ Some o → o < length s.heap
  pub entry : t ≡ 0 → x.entered ≡ false → x.ended ≡ false → IsSome x.entry

-- a frame of a method with another pc, which is one of the code, other locals, as many as before, and other operands, which
-- have room
pub record KeepsFrame (p : Linked) (f f' : FrameState) : Type 0 where
  pub same : f' ≡ record f { pc = f'.pc; locals = f'.locals; operands = f'.operands }
  pub runs : f.method ≡ None → ⊥
  pub pc : IsPc (code_of_frame p f) f'.pc
  pub locals : length f'.locals ≡ length f.locals
  pub operands : length f'.operands ≤ f.room

-- what has the monitor was made, and was not taken out
abbrev pub IsThere : Kept → Lock → Type 0
IsThere s (OfObject o) = IsHeld s.heap o
IsThere s (OfClass c) = Unit {0}

-- a method with code may be entered with these arguments: they have room, and where it isn't static a receiver is the first
pub record MayTake (p : Linked) (m : ℕ) (body : Body) (arguments : List Value) : Type 0 where
  pub method : m < length p.methods
  pub code : (method_at p m).code ≡ Some body
  pub few : length arguments ≤ body.max_locals
  pub receiver : is_static p m ≡ false → IsSome (first_reference arguments)

-- the monitor of a method, if it has one, may be entered once more
abbrev pub MayEnter : Doing → Option Lock → Type 0
MayEnter d None = Unit {0}
MayEnter d (Some lock) = IsThere d.state lock × ((monitor_of d lock).count < d.state.guest.clock)
