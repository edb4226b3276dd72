-- WHAT EVENTS ASK that initialize classes.
use Rattle.std.specs.Prelude.{◌≡◌, ℕ, ◌<◌, ◌^◌, true, All, Contains, List, length}
use Rattle.et_base.specs.declared.value.Value.TheVariants.{Unset}
use Rattle.std.specs.List.{list_all}
use Rattle.et_program.specs.Entries.{Linked}
use Rattle.et_state.specs.State.{MachineState, kept_of}
use Rattle.et_state.specs.Threads.{lost_room}
use Rattle.et_state.specs.Interned.{interned_objects}
use Rattle.et_state.specs.Words.{HasFrame, static_at}
use Rattle.et_event.specs.Initialization.{is_ready, prepared}
use Rattle.et_event.specs.InitializationOrder.{IsInOrder}
use Rattle.et_event.specs.Moments.{Doing, begins, moment}
use Rattle.et_event.specs.Sound.{IsSoundFor}
use Rattle.et_initialize.specs.Under.{IsInitializing}

-- what an event has come to that began, and in which the quiet ones among these classes became done
abbrev pub after : Linked → MachineState → ℕ → List ℕ → Doing
after p m t classes = prepared (moment p m t) classes (begins (moment p m t))

-- such an event may be done
pub record MayPrepare (p : Linked) (m : MachineState) (quiet : List ℕ) : Type 0 where
  pub order : IsInOrder p
  pub classes : All (λ c. c < length p.classes) quiet
  pub sound : IsSoundFor p (kept_of m)
  pub clock : m.guest.clock < 2 ^ 40

-- .. by a frame that need not wait for any of the classes
pub record MayGoOn (p : Linked) (m : MachineState) (t : ℕ) (classes : List ℕ) : Type 0 where
  pub prepares : MayPrepare p m classes
  pub frame : HasFrame m.guest t
  pub ready : list_all (is_ready (moment p m t) (begins (moment p m t))) classes ≡ true

-- constants may be set in the event under way
pub record MaySet (p : Linked) (m : MachineState) : Type 0 where
  pub order : IsInOrder p
  pub ready : IsInitializing p (kept_of m)
  pub lost : length m.lost < lost_room

-- the strings of constants were made
abbrev pub AreMade : MachineState → Type 0
AreMade m = (o : ℕ) → Contains (interned_objects m.guest.interned) o → o < length m.heap

-- a static field, to which nothing was written, may get its constant in the event under way
pub record MayWrite (m : MachineState) (i : ℕ) : Type 0 where
  pub slot : i < length m.guest.statics
  pub unset : static_at m.guest i ≡ Unset
  pub lost : length m.lost < lost_room
  pub made : AreMade m
