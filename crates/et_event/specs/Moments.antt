-- The parts of an event: where it stands, what it has done so far, and how it ends.
use Rattle.std.specs.Prelude.{ℕ, ◌+◌, ◌*◌, ◌/◌, ◌==◌, ◌&&◌, ◌||◌, nat_le, Bool, if◌then◌else◌, List, [], ◌∷◌, ◌++◌, length, Some, unwrap_or}
use Rattle.et_base.specs.declared.value.Value.{Value}
use Rattle.et_base.specs.declared.value.Value.TheVariants.{Unset, Int, Long, LongHigh, Null, Ref}
use Rattle.et_heap.specs.Objects.{ObjectState, Objects, new_object, object_at, slot_of, with_slot, with_object_at, made_count, slot_count, most_objects, most_slots}
use Rattle.et_state.specs.Threads.{FrameState, ThreadState, top_of, with_pending, as_entered, has_frame}
use Rattle.et_state.specs.State.{GuestState, Kept, MachineState, kept_of}
use Rattle.et_state.specs.Words.{thread_at, with_thread, with_top, static_at, with_static, ticked}
use Rattle.et_program.specs.Entries.{Linked, class_at}
use Rattle.et_program.specs.declared.info.Element.{Element}
use Rattle.et_program.specs.declared.info.Element.TheVariants.{NoArray, Base, Class}
use Rattle.et_state.specs.declared.records.Record.{Record}
use Rattle.et_state.specs.declared.records.Record.TheVariants.{Alloc, Update}
use Rattle.et_state.specs.Outcome.{Outcome, Goes, Waits, IllTyped, ObjectLimit}
use Rattle.et_event.specs.declared.errors.GuestError.{GuestError}
use Rattle.et_event.specs.Errors.{error_class}

-- the program, the state before the event, and the thread that has the turn
pub record Moment : Type 0 where
  pub program : Linked
  pub before : Kept
  pub thread : ℕ

-- .. of the event that a machine does next
abbrev pub moment : Linked → MachineState → ℕ → Moment
moment p m t = record { program = p; before = kept_of m; thread = t }

-- the thread and its topmost frame, before the event
abbrev pub thread_of : Moment → ThreadState
thread_of e = thread_at e.before.guest e.thread

abbrev pub current_frame : Moment → FrameState
current_frame e = top_of (thread_of e)

-- WHAT AN EVENT HAS DONE SO FAR: the state to which it has come, and its records
pub record Doing : Type 0 where
  pub state : Kept
  pub records : List Record

-- the state one event later, with nothing else changed
abbrev pub later : Kept → Kept
later s = record { heap = s.heap; guest = ticked s.guest }

-- an event begins
abbrev pub begins : Moment → Doing
begins e = record { state = later e.before; records = [] }

abbrev pub doing_with_guest : GuestState → Doing → Doing
doing_with_guest g d = record { state = record { heap = d.state.heap; guest = g }; records = d.records }

abbrev pub with_thread_state : Moment → ThreadState → Doing → Doing
with_thread_state e x d = doing_with_guest (with_thread d.state.guest e.thread x) d

-- the topmost frame became this one
abbrev pub with_frame : Moment → FrameState → Doing → Doing
with_frame e f d = doing_with_guest (with_top d.state.guest e.thread f) d

-- one record more
abbrev pub told : Record → Doing → Doing
told r d = record { state = d.state; records = d.records ++ r ∷ [] }

-- OBJECTS

abbrev pub object_class : Doing → ℕ → ℕ
object_class d o = (object_at d.state.heap o).class

-- the number that an object gets which is made next
abbrev pub next_object : Doing → ℕ
next_object d = length d.state.heap

-- an object is made, of so many bytes
abbrev pub object_added : Moment → ObjectState → ℕ → Doing → Doing
object_added e x size d = told (Alloc d.state.guest.clock e.thread (next_object d) x.class size x.length)
    (record { state = record { heap = d.state.heap ++ Some x ∷ []; guest = d.state.guest }; records = d.records })

-- an object of a class that is no array class takes 16 bytes, and 8 for each slot
abbrev pub instance_made : Moment → ℕ → Doing → Doing
instance_made e class d =
    let slots = (class_at e.program class).info.slots in
    object_added e (new_object class 0 slots) (16 + 8 * slots) d

-- how many bytes an element takes, by the code of its base type in newarray (JVMS 6.5): boolean and byte; char and short;
-- float and int; double and long. A reference takes 8
abbrev pub base_width : ℕ → ℕ
base_width kind =
    if (kind == 4) || (kind == 8) then 1
    else (if (kind == 5) || (kind == 9) then 2
    else (if (kind == 6) || (kind == 10) then 4 else 8))

abbrev pub element_width : Element → ℕ
element_width NoArray = 0
element_width (Base kind) = base_width kind
element_width (Class class) = 8

-- an array takes 24 bytes and those of its elements, up to the next multiple of 8
abbrev pub array_size : ℕ → ℕ → ℕ
array_size elements width = (24 + elements * width + 7) / 8 * 8

abbrev pub array_made : Moment → ℕ → ℕ → Doing → Doing
array_made e class elements d = object_added e (new_object class elements elements) (array_size elements (element_width (class_at e.program class).info.element)) d

-- WRITING: a reference that is written is recorded, also where the old one is the same. A value that is no reference is not

-- the number of a reference in a record; 0 is null
abbrev pub number_of_value : Value → ℕ
number_of_value Unset = 0
number_of_value (Int n) = 0
number_of_value (Long n) = 0
number_of_value LongHigh = 0
number_of_value Null = 0
number_of_value (Ref o) = o

abbrev pub updated : Moment → ℕ → ℕ → Value → Value → Doing → Doing
updated e o i old Null d = told (Update d.state.guest.clock e.thread o i (number_of_value old) 0) d
updated e o i old (Ref new) d = told (Update d.state.guest.clock e.thread o i (number_of_value old) new) d
updated e o i old other d = d

abbrev pub slot_written : Moment → ℕ → ℕ → Value → Doing → Doing
slot_written e o i v d =
    let x = object_at d.state.heap o in
    updated e o i (slot_of x i) v (record { state = record { heap = with_object_at d.state.heap o (with_slot i v x); guest = d.state.guest }; records = d.records })

-- the object of a static slot is 0
abbrev pub static_written : Moment → ℕ → Value → Doing → Doing
static_written e i v d = updated e 0 i (static_at d.state.guest i) v (doing_with_guest (with_static d.state.guest i v) d)

-- HOW AN EVENT ENDS

-- it has no meaning: the method and the pc are those of the topmost frame before it
abbrev pub ill_typed : Moment → Outcome Kept
ill_typed e = IllTyped (unwrap_or (current_frame e).method 0) (current_frame e).pc

-- the thread waits: only the clock goes on
abbrev pub waits : Moment → Outcome Kept
waits e = Waits (later e.before)

-- it is done, and made no object
abbrev pub goes : Doing → Outcome Kept
goes d = Goes d.state d.records

-- it is done, where all that it made fits
abbrev pub fits_heap : Objects → Bool
fits_heap heap = nat_le (made_count heap) most_objects && nat_le (slot_count heap) most_slots

abbrev pub ends_event : Doing → Outcome Kept
ends_event d = if fits_heap d.state.heap then Goes d.state d.records else ObjectLimit

-- an exception is thrown (JVMS 2.10): it becomes pending, and the topmost frame stays as it is
abbrev pub pending_now : Moment → ℕ → Doing → Doing
pending_now e o d = with_thread_state e (with_pending (Some o) (thread_at d.state.guest e.thread)) d

-- a thread without a frame was to be entered: it counts as entered where that throws
abbrev pub entry_given_up : Moment → Doing → Doing
entry_given_up e d = if has_frame (thread_at d.state.guest e.thread).frames then d else with_thread_state e (as_entered (thread_at d.state.guest e.thread)) d

-- the machine itself throws: the exception is a new object whose slots are null
abbrev pub throws : Moment → GuestError → Doing → Outcome Kept
throws e error d = ends_event (pending_now e (next_object d) (instance_made e (error_class e.program error) (entry_given_up e d)))
