-- WHAT THE U RECORDS OF AN EVENT TELL: each write of a reference to a slot of an object or to a static, in order, with the
-- reference that stood there before; and no U record is without a write.
use Rattle.std.specs.Prelude.{◌≡◌, ℕ, ◌<◌, ◌≤◌, ◌==◌, ◌&&◌, ◌⊎◌, Bool, false, if◌then◌else◌, List, [], ◌∷◌, length, All, slice_index_or}
use Rattle.et_graph.specs.Graph.{IsReached}
use Rattle.et_heap.specs.Objects.{object_at, slot_of}
use Rattle.et_program.specs.Entries.{Linked, class_at}
use Rattle.et_state.specs.Roots.{graph_of}
use Rattle.et_state.specs.State.{Kept}
use Rattle.et_state.specs.Words.{static_at}
use Rattle.et_state.specs.declared.records.Record.{Record}
use Rattle.et_state.specs.declared.records.Record.TheVariants.{Update}
use Rattle.et_state.specs.Outcome.{Outcome}
use Rattle.et_state.specs.Outcome as outcome
use Rattle.et_event.specs.Errors.{error_class}
use Rattle.et_event.specs.Heap.{is_out}
use Rattle.et_event.specs.Moments.{number_of_value}
use Rattle.et_event.specs.declared.errors.GuestError.TheVariants.{ExceptionInInitializerError}

-- the reference in a slot of an object, or in a static for the object 0, by its number; 0 is null or what is no reference
abbrev pub reference_at : Kept → (object slot : ℕ) → ℕ
reference_at s o i = if o == 0 then number_of_value (static_at s.guest i) else number_of_value (slot_of (object_at s.heap o) i)

-- a U record tells the reference that stands there
abbrev pub TellsOld : (before : ℕ → ℕ → ℕ) → Record → Type 0
TellsOld before (Update event thread object slot old new) = old ≡ before object slot
TellsOld before other = Unit {0}

-- .. and puts another one there; no other record changes what stands anywhere
abbrev pub after_record : (before : ℕ → ℕ → ℕ) → Record → (object slot : ℕ) → ℕ
after_record before (Update event thread object slot old new) o i = if (o == object) && (i == slot) then new else before o i
after_record before other o i = before o i

-- these records, and nothing besides, lead from the references that stood before to those that stand after
abbrev pub TellWrites : (before : ℕ → ℕ → ℕ) → List Record → (after : ℕ → ℕ → ℕ) → Type 0
TellWrites before [] after = (o i : ℕ) → after o i ≡ before o i
TellWrites before (r ∷ rs) after = TellsOld before r × TellWrites (after_record before r) rs after

-- an event that is done tells its writes; where the thread waits, nothing is written
abbrev pub TellsWrites : Kept → Outcome Kept → Type 0
TellsWrites s (outcome.Goes next records) = TellWrites (reference_at s) records (reference_at next)
TellsWrites s (outcome.Waits next) = (o i : ℕ) → reference_at next o i ≡ reference_at s o i
TellsWrites s (outcome.IllTyped method pc) = Unit {0}
TellsWrites s outcome.ObjectLimit = Unit {0}

-- WHAT IS WRITTEN TO

-- what holds of each record of an event that is done
abbrev pub EachRecord : (Record → Type 0) → Outcome Kept → Type 0
EachRecord P (outcome.Goes next records) = All P records
EachRecord P (outcome.Waits next) = Unit {0}
EachRecord P (outcome.IllTyped method pc) = Unit {0}
EachRecord P outcome.ObjectLimit = Unit {0}

-- an object that is reached in the state before an event, or that the event makes
abbrev pub IsAtHand : Kept → ℕ → Type 0
IsAtHand s o = IsReached (graph_of s) o ⊎ (length s.heap ≤ o)

-- a U record tells of a static, for the object 0, or of a slot of such an object
abbrev pub IsOfReached : Kept → Record → Type 0
IsOfReached s (Update event thread object slot old new) = (object ≡ 0) ⊎ IsAtHand s object
IsOfReached s other = Unit {0}

abbrev pub WritesToReached : Kept → Outcome Kept → Type 0
WritesToReached s o = EachRecord (IsOfReached s) o

-- THE STATIC OF System.out, of which no U record tells

-- the static slot is that of System.out
abbrev pub is_out_slot : Linked → ℕ → Bool
is_out_slot p i = is_out p (slice_index_or p.statics i 0)

abbrev pub IsBesideOut : Linked → Record → Type 0
IsBesideOut p (Update event thread object slot old new) = object ≡ 0 → is_out_slot p slot ≡ false
IsBesideOut p other = Unit {0}

abbrev pub TellsBesideOut : Linked → Outcome Kept → Type 0
TellsBesideOut p o = EachRecord (IsBesideOut p) o

-- an ExceptionInInitializerError has a slot for its cause
abbrev pub HasCause : Linked → Type 0
HasCause p = 1 < (class_at p (error_class p ExceptionInInitializerError)).info.slots
