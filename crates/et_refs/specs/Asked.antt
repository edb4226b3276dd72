-- WHAT EVENTS ASK on fields, arrays and classes.
use Rattle.std.specs.Prelude.{◌≡◌, ℕ, ◌<◌, ◌^◌, length}
use Rattle.et_program.specs.Entries.{Linked}
use Rattle.et_program.specs.Referring.{pool_of_class}
use Rattle.et_state.specs.Sound.{IsSound}
use Rattle.et_state.specs.State.{MachineState, kept_of}
use Rattle.et_state.specs.Words.{HasFrame, top}
use Rattle.et_event.specs.declared.places.Place.{Place}
use Rattle.et_event.specs.Beginning.{BeginsEvent}
use Rattle.et_event.specs.InitializationOrder.{IsInOrder}
use Rattle.et_event.specs.Places.{IsPlace}
use Rattle.et_event.specs.Programs.{HasInitializers, MakesSound}
use Rattle.et_event.specs.Sites.{natural_of}
use Rattle.et_event.specs.Sound.{IsSoundFor}
use Rattle.et_refs.specs.Accesses.{MayWant}
use Rattle.et_refs.specs.declared.doing.accesses.Wanted.{Wanted}

-- the event of a thread may be done in a sound state
pub record MayStep (m : MachineState) (t : ℕ) : Type 0 where
  pub frame : HasFrame m.guest t
  pub sound : IsSound (kept_of m)
  pub clock : m.guest.clock < 2 ^ 40

-- the event of a thread begins that stands at this place
pub record BeginsAt (p : Linked) (m : MachineState) (t : ℕ) (x : Place) : Type 0 where
  pub begins : BeginsEvent p m t
  pub frame : HasFrame m.guest t
  pub place : IsPlace p (top m.guest t) x

-- the event of a thread may be done, in which this is done with a class
pub record BeginsAccess (p : Linked) (m : MachineState) (t : ℕ) (x : Wanted) : Type 0 where
  pub order : IsInOrder p
  pub initializers : HasInitializers p
  pub makes : MakesSound p
  pub frame : HasFrame m.guest t
  pub sound : IsSoundFor p (kept_of m)
  pub clock : m.guest.clock < 2 ^ 40
  pub may : MayWant p (top m.guest t) x

-- the instruction at a place, where a thread stands, has an index into the pool of its class
pub record MayRefer (p : Linked) (m : MachineState) (t : ℕ) (place : Place) : Type 0 where
  pub frame : HasFrame m.guest t
  pub class : place.site.class < length p.classes
  pub index : natural_of place.site.instr.first < 2 ^ 16
  pub pool : place.site.pool ≡ pool_of_class p place.site.class
