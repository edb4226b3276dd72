-- WHAT THE EVENTS OF CALLS ASK of the program and the machine.
use Rattle.std.specs.Prelude.{◌≡◌, ℕ, ◌<◌, ◌≤◌, ◌^◌, true, All, [], length, Option, None}
use Rattle.std.specs.List.{list_all}
use Rattle.et_program.specs.Entries.{Linked, method_at}
use Rattle.et_state.specs.State.{MachineState, kept_of}
use Rattle.et_state.specs.Threads.{most_frames}
use Rattle.et_state.specs.Words.{HasFrame, thread_at, top}
use Rattle.et_state.specs.declared.new_frame.NewHead.{NewHead}
use Rattle.et_event.specs.Initialization.{is_ready}
use Rattle.et_event.specs.InitializationOrder.{IsInOrder}
use Rattle.et_event.specs.Locks.{HasSome, IsSomeFewTimes}
use Rattle.et_event.specs.Moments.{begins, moment}
use Rattle.et_event.specs.Monitors.{Lock}
use Rattle.et_event.specs.Programs.{HasMachineSlots, HasBuiltInMethods}
use Rattle.et_event.specs.Sound.{IsSoundFor}
use Rattle.et_calls.specs.declared.entry.first.First.{First}
use Rattle.et_calls.specs.declared.new_frames.Entered.{Entered}
use Rattle.et_calls.specs.declared.new_frames.Passed.{Passed}
use Rattle.et_calls.specs.Entering.{ArePassedTo, IsEntered, arguments_passed}
use Rattle.et_calls.specs.Fresh.{IsArgument, IsFresh}

-- the event of an invoke may be done
pub record MayInvoke (p : Linked) (m : MachineState) (t : ℕ) : Type 0 where
  pub frame : HasFrame m.guest t
  pub sound : IsSoundFor p (kept_of m)
  pub clock : m.guest.clock < 2 ^ 40
  pub slots : HasMachineSlots p
  pub order : IsInOrder p
  pub methods : HasBuiltInMethods p

-- the event in which a method with code is entered may be done
pub record MayEnter (p : Linked) (m : MachineState) (t : ℕ) (x : Entered) : Type 0 where
  pub order : IsInOrder p
  pub sound : IsSoundFor p (kept_of m)
  pub clock : m.guest.clock < 2 ^ 40
  pub entered : IsEntered p m t x

-- .. and that in which a thread enters its first method
pub record MayBegin (p : Linked) (m : MachineState) (t : ℕ) : Type 0 where
  pub order : IsInOrder p
  pub methods : HasBuiltInMethods p
  pub sound : IsSoundFor p (kept_of m)
  pub clock : m.guest.clock < 2 ^ 40
  pub fresh : IsFresh m.guest t

-- a method that a thread enters first, before which the quiet ones among its classes may become done; there are none where
-- the method has no code
pub record IsFirst (p : Linked) (m : MachineState) (t : ℕ) (x : First) : Type 0 where
  pub method : x.method < length p.methods
  pub argument : IsArgument m.guest t x.argument
  pub classes : All (λ c. c < length p.classes) x.classes.now
  pub ready : list_all (is_ready (moment p m t) (begins (moment p m t))) x.classes.now ≡ true
  pub coded : (method_at p x.method).code ≡ None → x.classes.now ≡ []

-- in the event under way the frame of a method may be put on top, which gets these arguments
pub record MayPut (m : MachineState) (t : ℕ) (head : NewHead) (given : Passed) : Type 0 where
  pub passed : ArePassedTo m.guest t given
  pub lost : m.lost ≡ []
  pub few : length (thread_at m.guest t).frames < most_frames
  pub arguments : length (arguments_passed (top m.guest t) given) ≤ head.max_locals

-- .. and its monitor may be entered
pub record MayPush (m : MachineState) (t : ℕ) (head : NewHead) (given : Passed) (monitor : Option Lock) : Type 0 where
  pub puts : MayPut m t head given
  pub lock : HasSome m monitor
  pub times : IsSomeFewTimes m monitor
