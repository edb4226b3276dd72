-- What an event on fields, arrays and classes does once no check refused: it puts a value in the place of operands, it
-- writes a slot, or it makes an array.
use Rattle.std.specs.Prelude.{◌≡◌, ℕ, ◌+◌, ◌<◌, ◌≤◌, Bool, true, false, List, [], ◌∷◌, ◌++◌, length, drop, Some, Contains}
use Rattle.et_base.specs.declared.value.Value.{Value}
use Rattle.et_base.specs.declared.value.Value.TheVariants.{Int, Long, Ref}
use Rattle.et_heap.specs.Objects.{Objects, IsHeld, object_at, slot_of}
use Rattle.et_heap.specs.Refs.{refs_of_value}
use Rattle.et_state.specs.Threads.{FrameState}
use Rattle.et_state.specs.ThreadRoots.{frame_roots}
use Rattle.et_state.specs.State.{Kept, MachineState}
use Rattle.et_state.specs.Outcome.{Outcome}
use Rattle.et_event.specs.Moments.{Moment, current_frame, begins, next_object, array_made, slot_written, goes, ends_event}
use Rattle.et_event.specs.Checks.{Reference, entries_of}
use Rattle.et_event.specs.Heap.{leaving_values}
use Rattle.et_event.specs.Sites.{Site}
use Rattle.et_event.specs.Tops.{IsIn}
use Rattle.et_refs.specs.Reads.{AreHeld}
use Rattle.et_refs.specs.declared.doing.changes.Exchange.{Exchange}
use Rattle.et_refs.specs.declared.doing.changes.Store.{Store}
use Rattle.et_refs.specs.declared.doing.changes.NewArray.{NewArray}
use Rattle.et_refs.specs.declared.doing.changes.Change.{Change}
use Rattle.et_refs.specs.declared.doing.changes.Change.TheVariants as change

-- a value was put in the place of operands, and these are below it
abbrev pub put_outcome : Moment → Site → List Value → Value → Outcome Kept
put_outcome e at below v = goes (leaving_values e at (entries_of v ++ below) (begins e))

abbrev pub exchange_outcome : Moment → Site → Exchange → Outcome Kept
exchange_outcome e at x = put_outcome e at (drop x.taken (current_frame e).operands) x.value

abbrev pub store_outcome : Moment → Site → Store → Outcome Kept
store_outcome e at x = goes (slot_written e x.object x.slot x.value (leaving_values e at (drop x.taken (current_frame e).operands) (begins e)))

abbrev pub new_array_outcome : Moment → Site → NewArray → Outcome Kept
new_array_outcome e at x = ends_event (leaving_values e at (Ref (next_object (begins e)) ∷ drop 1 (current_frame e).operands) (array_made e x.class x.elements (begins e)))

abbrev pub change_outcome : Moment → Site → Change → Outcome Kept
change_outcome e at (change.Put x) = exchange_outcome e at x
change_outcome e at (change.Make x) = new_array_outcome e at x

-- WHAT HOLDS OF SUCH A CHANGE

-- a number, of which no record tells that it is written
abbrev pub is_number : Value → Bool
is_number (Int n) = true
is_number (Long n) = true
is_number other = false

-- the operands are there, the value that is put in their place fits, and what it refers to is held
pub record MayExchange (heap : Objects) (f : FrameState) (x : Exchange) : Type 0 where
  pub taken : x.taken ≤ length f.operands
  pub few : x.taken ≤ 8
  pub room : length (entries_of x.value) + length (drop x.taken f.operands) ≤ f.room
  pub held : AreHeld heap (refs_of_value x.value)

-- the operands are there, the object stands in the frame and has the slot, what the value refers to stands in the frame, and
-- a number takes the place of no reference
pub record MayStore (heap : Objects) (f : FrameState) (x : Store) : Type 0 where
  pub taken : x.taken ≤ length f.operands
  pub few : x.taken ≤ 8
  pub object : Contains (frame_roots f) x.object
  pub slot : x.slot < length (object_at heap x.object).slots
  pub value : IsIn f x.value
  pub number : is_number x.value ≡ true → refs_of_value (slot_of (object_at heap x.object) x.slot) ≡ []

-- the length is there
pub record MayMake (f : FrameState) : Type 0 where
  pub taken : 1 ≤ length f.operands
  pub room : length f.operands ≤ f.room

abbrev pub MayChange : Objects → FrameState → Change → Type 0
MayChange heap f (change.Put x) = MayExchange heap f x
MayChange heap f (change.Make x) = MayMake f

-- the object that a reference names is held and stands in the frame
abbrev pub IsNamedReference : MachineState → FrameState → Reference → Type 0
IsNamedReference m f r = (o : ℕ) → r ≡ Some o → IsHeld m.heap o × Contains (frame_roots f) o
