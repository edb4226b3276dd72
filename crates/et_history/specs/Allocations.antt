-- THE ALLOCATIONS OF A TRACE: one line for each object that was made, in order, with the event at which it came.
use Rattle.std.specs.Prelude.{◌≡◌, ℕ, ◌+◌, ◌<◌, ◌≤◌, true, List, [], ◌∷◌, length}
use Rattle.et_base.specs.declared.line.TraceLine.{TraceLine}
use Rattle.et_base.specs.declared.line.TraceLine.TheVariants.{Alloc}
use Rattle.et_heap.specs.Objects.{ObjectState, at, found}
use Rattle.et_program.specs.Entries.{Linked, class_at}
use Rattle.et_state.specs.Past.{first_of}
use Rattle.et_state.specs.Start.{argument_class}
use Rattle.et_state.specs.State.{State}
use Rattle.et_event.specs.Kinds.{is_array_element}
use Rattle.et_history.specs.steps.Records.{size_of}
use Rattle.et_history.specs.Same.{IsHere}

-- an object that was made, held or reported
abbrev pub object_in : State → ℕ → ObjectState
object_in s o = found (first_of (at s.kept.heap o) (at s.reported o))

-- the number of the object that is made next
abbrev pub next_number : State → ℕ
next_number s = length s.kept.heap

-- An object of a history that has come to event `last`: this event made it, and these are its length and its bytes, which
-- never change.
pub record IsMadeAt (p : Linked) (state : ℕ → State) (last event object size elements : ℕ) : Type 0 where
  pub within : event ≤ last
  pub made : object < next_number (state event)
  pub new : (k : ℕ) → k < event → next_number (state k) ≤ object
  pub here : IsHere (state last) object
  pub length_is : elements ≡ (object_in (state last) object).length
  pub size_is : size ≡ size_of p (object_in (state last) object)

module _ (IsMade : (event object size elements : ℕ) → Type 0) where
  -- a line, where the object made next has this number
  abbrev pub TellsOf : ℕ → TraceLine → Type 0
  TellsOf next (Alloc event thread object class size elements) = (object ≡ next) × IsMade event object size elements
  TellsOf next other = Unit {0}

  abbrev pub next_behind : ℕ → TraceLine → ℕ
  next_behind next (Alloc event thread object class size elements) = next + 1
  next_behind next other = next

  -- the A lines are those of the objects from this number on, up to where the next one has the number `end`
  abbrev pub AreAllocations : ℕ → List TraceLine → ℕ → Type 0
  AreAllocations next [] end = next ≡ end
  AreAllocations next (l ∷ ls) end = TellsOf next l × AreAllocations (next_behind next l) ls end

-- the class of the argument array is one of arrays
abbrev pub HasArguments : Linked → Type 0
HasArguments p = is_array_element (class_at p (argument_class p)).info.element ≡ true
