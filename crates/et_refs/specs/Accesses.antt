-- What an event does once the class that it needs is initialized: it puts the value of a static field on top, it writes one,
-- or it makes an instance of the class.
use Rattle.std.specs.Prelude.{◌≡◌, ℕ, ◌+◌, ◌*◌, ◌<◌, ◌≤◌, true, List, [], ◌∷◌, ◌++◌, length, drop, take, slice_index_or}
use Rattle.et_base.specs.declared.value.Value.{Value}
use Rattle.et_base.specs.declared.value.Value.TheVariants.{Ref}
use Rattle.et_heap.specs.Objects.{has_room, new_object}
use Rattle.et_heap.specs.Refs.{refs_of_value, refs_of}
use Rattle.et_state.specs.Threads.{FrameState}
use Rattle.et_state.specs.State.{Kept, MachineState}
use Rattle.et_state.specs.Words.{top, static_at, with_static, steps_guest, steps_top, with_new_object}
use Rattle.et_program.specs.Entries.{Linked, class_at, field_at}
use Rattle.et_state.specs.declared.records.Record.{Record}
use Rattle.et_state.specs.declared.records.Record.TheVariants.{Alloc}
use Rattle.et_state.specs.Outcome.{Outcome}
use Rattle.et_event.specs.Checks.{entries_of}
use Rattle.et_event.specs.Heap.{leaving_values}
use Rattle.et_event.specs.Initialization.{initialized}
use Rattle.et_event.specs.Kinds.{or_zero}
use Rattle.et_event.specs.Operands.{operand_kind}
use Rattle.et_event.specs.Moments.{Moment, Doing, current_frame, begins, next_object, instance_made, static_written, ends_event}
use Rattle.et_event.specs.Sites.{Site}
use Rattle.et_event.specs.Sound.{is_of_kind}
use Rattle.et_event.specs.Telling.{TellsUpdate}
use Rattle.et_event.specs.Tops.{IsIn}
use Rattle.et_refs.specs.declared.doing.accesses.Read.{Read}
use Rattle.et_refs.specs.declared.doing.accesses.Write.{Write}
use Rattle.et_refs.specs.declared.doing.accesses.Access.{Access}
use Rattle.et_refs.specs.declared.doing.accesses.Access.TheVariants as access
use Rattle.et_refs.specs.declared.doing.accesses.Wanted.{Wanted}

-- what was done, with the access
abbrev pub with_access : Moment → Site → ℕ → Access → Doing → Doing
with_access e at class (access.Read x) d = leaving_values e at (entries_of (or_zero x.kind (static_at d.state.guest x.slot)) ++ (current_frame e).operands) d
with_access e at class (access.Write x) d = static_written e x.slot x.value (leaving_values e at (drop x.taken (current_frame e).operands) d)
with_access e at class access.Make d = leaving_values e at (Ref (next_object d) ∷ (current_frame e).operands) (instance_made e class d)

abbrev pub access_outcome : Moment → Site → Wanted → Doing → Outcome Kept
access_outcome e at x d = ends_event (with_access e at x.class x.access d)

-- the class is initialized first
abbrev pub wanted_outcome : Moment → Site → Wanted → Outcome Kept
wanted_outcome e at x = initialized e (begins e) x.class (access_outcome e at x)

-- how many objects it makes, and how many slots they have
abbrev pub objects_in : Access → ℕ
objects_in (access.Read x) = 0
objects_in (access.Write x) = 0
objects_in access.Make = 1

abbrev pub slots_accessed : Linked → ℕ → Access → ℕ
slots_accessed p class (access.Read x) = 0
slots_accessed p class (access.Write x) = 0
slots_accessed p class access.Make = (class_at p class).info.slots

-- WHAT HOLDS OF AN ACCESS

-- each value that the field may hold fits on top
pub record MayRead (p : Linked) (f : FrameState) (x : Read) : Type 0 where
  pub slot : x.slot < length p.statics
  pub kind : x.kind ≡ operand_kind (field_at p (slice_index_or p.statics x.slot 0)).descriptor
  pub room : (v : Value) → is_of_kind x.kind v ≡ true → length (entries_of (or_zero x.kind v)) + length f.operands ≤ f.room

-- the operands are there, and what the value refers to stands in the frame
pub record MayWrite (p : Linked) (f : FrameState) (x : Write) : Type 0 where
  pub slot : x.slot < length p.statics
  pub taken : x.taken ≤ length f.operands
  pub few : x.taken ≤ 2
  pub value : IsIn f x.value

abbrev pub MayAccess : Linked → FrameState → Access → Type 0
MayAccess p f (access.Read x) = MayRead p f x
MayAccess p f (access.Write x) = MayWrite p f x
MayAccess p f access.Make = 1 + length f.operands ≤ f.room

pub record MayWant (p : Linked) (f : FrameState) (x : Wanted) : Type 0 where
  pub class : x.class < length p.classes
  pub access : MayAccess p f x.access

-- THE EVENT IS UNDER WAY, and the class is initialized: this may be done now

pub record CanRead (m : MachineState) (f : FrameState) (x : Read) : Type 0 where
  pub slot : x.slot < length m.guest.statics
  pub room : length (entries_of (or_zero x.kind (static_at m.guest x.slot))) + length f.operands ≤ f.room

pub record CanWrite (m : MachineState) (f : FrameState) (x : Write) : Type 0 where
  pub slot : x.slot < length m.guest.statics
  pub taken : x.taken ≤ length f.operands
  pub few : x.taken ≤ 2

pub record CanMake (p : Linked) (m : MachineState) (f : FrameState) (class : ℕ) : Type 0 where
  pub operands : 1 + length f.operands ≤ f.room
  pub room : has_room m.heap 1 (class_at p class).info.slots ≡ true

abbrev pub CanAccess : Linked → MachineState → FrameState → ℕ → Access → Type 0
CanAccess p m f class (access.Read x) = CanRead m f x
CanAccess p m f class (access.Write x) = CanWrite m f x
CanAccess p m f class access.Make = CanMake p m f class

-- and so the machine becomes

-- .. another one with other operands in the place of so many of the topmost frame, and another pc
abbrev pub replaces : ℕ → ℕ → ℕ → List Value → MachineState → MachineState
replaces t next taken values m =
    steps_top m t (record (top m.guest t) { pc = next; operands = values ++ drop taken (top m.guest t).operands }) (refs_of (take taken (top m.guest t).operands))

abbrev pub reads : ℕ → ℕ → Read → MachineState → MachineState
reads t next x m = replaces t next 0 (entries_of (or_zero x.kind (static_at m.guest x.slot))) m

abbrev pub access_written : ℕ → ℕ → Write → MachineState → MachineState
access_written t next x m =
    let n = replaces t next x.taken [] m in
    steps_guest n (with_static n.guest x.slot x.value) (refs_of_value (static_at n.guest x.slot))

abbrev pub makes : Linked → ℕ → ℕ → ℕ → MachineState → MachineState
makes p t next class m = replaces t next 0 (Ref (length m.heap) ∷ []) (with_new_object m (new_object class 0 (class_at p class).info.slots))

abbrev pub Accesses : Linked → ℕ → ℕ → ℕ → Access → MachineState → MachineState → List Record → List Record → Type 0
Accesses p t next class (access.Read x) m m' out out' = (m' ≡ reads t next x m) × (out' ≡ out)
Accesses p t next class (access.Write x) m m' out out' = (m' ≡ access_written t next x m) × TellsUpdate m.guest.clock t 0 x.slot (static_at m.guest x.slot) x.value out out'
Accesses p t next class access.Make m m' out out' =
    (m' ≡ makes p t next class m) × (out' ≡ out ++ Alloc m.guest.clock t (length m.heap) class (16 + 8 * (class_at p class).info.slots) 0 ∷ [])
