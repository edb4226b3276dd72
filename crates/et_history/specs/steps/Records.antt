-- WHAT THE RECORDS OF AN EVENT TELL OF OBJECTS: each one that it makes, in order, and else only what is there by then.
use Rattle.std.specs.Prelude.{◌≡◌, ℕ, ◌+◌, ◌*◌, ◌<◌, ◌⊎◌, List, [], ◌∷◌, length, codes}
use Rattle.et_heap.specs.Objects.{ObjectState, Objects, IsHeld, object_at}
use Rattle.et_program.specs.Entries.{Linked, class_at}
use Rattle.et_program.specs.declared.info.Element.{Element}
use Rattle.et_program.specs.declared.info.Element.TheVariants.{NoArray, Base, Class}
use Rattle.et_state.specs.State.{Kept}
use Rattle.et_state.specs.declared.records.Record.{Record}
use Rattle.et_state.specs.declared.records.Record.TheVariants.{Alloc, Update, Enter, Exit, Unwind}
use Rattle.et_state.specs.Outcome.{Outcome}
use Rattle.et_state.specs.Outcome as outcome
use Rattle.et_event.specs.Errors.{class_called}
use Rattle.et_event.specs.Moments.{array_size, element_width}
use Rattle.et_history.specs.steps.Values.{Grows}

-- THE BYTES OF AN OBJECT: what is no array takes 16, and 8 for each slot
abbrev pub size_by : Element → (elements slots : ℕ) → ℕ
size_by NoArray elements slots = 16 + 8 * slots
size_by (Base kind) elements slots = array_size elements (element_width (Base kind))
size_by (Class class) elements slots = array_size elements (element_width (Class class))

abbrev pub size_of : Linked → ObjectState → ℕ
size_of p x = size_by (class_at p x.class).info.element x.length (length x.slots)

-- what never changes of an object: its class, its length and how many slots it has
pub record IsAlike (x y : ObjectState) : Type 0 where
  pub class : y.class ≡ x.class
  pub elements : y.length ≡ x.length
  pub slots : length y.slots ≡ length x.slots

-- an object that was made before the one of this number, and is held; or none
abbrev pub IsMadeBefore : Objects → ℕ → ℕ → Type 0
IsMadeBefore heap next o = (o < next) × IsHeld heap o

abbrev pub IsMadeBeforeOrNone : Objects → ℕ → ℕ → Type 0
IsMadeBeforeOrNone heap next o = (o ≡ 0) ⊎ IsMadeBefore heap next o

-- what a record says was written: a static, for no object (0), or a slot of an object that was made before. The machine
-- itself writes the first two slots of a Throwable, and the first of a Thread
abbrev pub IsUpdated : Linked → Objects → (next object slot : ℕ) → Type 0
IsUpdated p heap next object slot =
    ((object ≡ 0) × (slot < length p.statics))
    ⊎ (IsMadeBefore heap next object × ((slot < 2) ⊎ (slot < length (object_at heap object).slots)))

-- the number of the object that is made next, after a record
abbrev pub next_after : ℕ → Record → ℕ
next_after next (Alloc event thread object class size elements) = next + 1
next_after next (Update event thread object slot old new) = next
next_after next (Enter event thread method receiver) = next
next_after next (Exit event thread method) = next
next_after next (Unwind event thread method exception) = next

-- an allocation of the object of this number, as it stands in the heap
pub record IsAllocationOf (p : Linked) (heap : Objects) (next object class size elements : ℕ) : Type 0 where
  pub number_is : object ≡ next
  pub held : IsHeld heap object
  pub class_is : class ≡ (object_at heap object).class
  pub length_is : elements ≡ (object_at heap object).length
  pub size_is : size ≡ size_of p (object_at heap object)
  -- what is no array has the length 0
  pub plain : (class_at p class).info.element ≡ NoArray → elements ≡ 0

module _ (p : Linked) (clock t : ℕ) (heap : Objects) where
  -- a record of this event of thread t, which led to this heap, where the object made next has this number
  abbrev pub IsRecordOf : ℕ → Record → Type 0
  IsRecordOf next (Alloc event thread object class size elements) =
      (event ≡ clock) × (thread ≡ t) × IsAllocationOf p heap next object class size elements
  IsRecordOf next (Update event thread object slot old new) =
      (event ≡ clock) × (thread ≡ t) × IsUpdated p heap next object slot × IsMadeBeforeOrNone heap next old × IsMadeBeforeOrNone heap next new
  IsRecordOf next (Enter event thread method receiver) = (event ≡ clock) × (thread ≡ t) × IsMadeBeforeOrNone heap next receiver
  IsRecordOf next (Exit event thread method) = (event ≡ clock) × (thread ≡ t)
  IsRecordOf next (Unwind event thread method exception) = (event ≡ clock) × (thread ≡ t) × IsMadeBefore heap next exception

  -- .. all of them, up to where the object made next has the number `last`
  abbrev pub AreRecordsOf : ℕ → List Record → ℕ → Type 0
  AreRecordsOf next [] last = next ≡ last
  AreRecordsOf next (r ∷ rs) last = IsRecordOf next r × AreRecordsOf (next_after next r) rs last

-- what an event does to objects: its records tell those that it makes, and each one that was held is held, and alike
pub record TellsAll (p : Linked) (s : Kept) (t : ℕ) (next : Kept) (records : List Record) : Type 0 where
  pub tells : AreRecordsOf p (s.guest.clock + 1) t next.heap (length s.heap) records (length next.heap)
  pub stays : (o : ℕ) → IsHeld s.heap o → IsHeld next.heap o
  pub alike : (o : ℕ) → IsHeld s.heap o → IsAlike (object_at s.heap o) (object_at next.heap o)

-- THE LAW OF EVENTS: a thread that waits makes nothing, and tells nothing
abbrev pub TellsObjects : Linked → Kept → ℕ → Outcome Kept → Type 0
TellsObjects p s t (outcome.Goes next records) = TellsAll p s t next records
TellsObjects p s t (outcome.Waits next) = next.heap ≡ s.heap
TellsObjects p s t (outcome.IllTyped method pc) = Unit {0}
TellsObjects p s t outcome.ObjectLimit = Unit {0}

-- HEAPS: what is held stays, and alike
pub record Steady (h h' : Objects) : Type 0 where
  pub stays : Grows h h'
  pub alike : (o : ℕ) → IsHeld h o → IsAlike (object_at h o) (object_at h' o)

-- a string of a constant is no array
abbrev pub HasPlainStrings : Linked → Type 0
HasPlainStrings p = (class_at p (class_called p (codes "java/lang/String"))).info.element ≡ NoArray
