-- Arrays of some dimensions under way: the first array, an element of it, an element of that and so on, each of which has its
-- first elements already, and the last one no element that isn't whole.
use Rattle.std.specs.Prelude.{ℕ, zero, suc, ◌+◌, ◌-◌, ◌<◌, ◌≤◌, List, [], ◌∷◌, length}
use Rattle.et_base.specs.declared.value.Value.TheVariants.{Ref}
use Rattle.et_heap.specs.Objects.{Objects, IsHeld, object_at}
use Rattle.et_program.specs.Entries.{class_at}
use Rattle.et_event.specs.Heap.{arrays_made, element_class}
use Rattle.et_event.specs.Moments.{Moment, Doing, next_object, slot_written}
use Rattle.et_refs.specs.declared.arrays.filling.Filling.{Filling}

-- so many elements of an array from i on are made, each with what is in it
abbrev pub filled_from : Moment → ℕ → (Doing → Doing) → ℕ → ℕ → Doing → Doing
filled_from e o make i zero d = d
filled_from e o make i (suc left) d = filled_from e o make (i + 1) left (slot_written e o i (Ref (next_object d)) (make d))

abbrev pub inner_dimensions : List ℕ → List ℕ
inner_dimensions [] = []
inner_dimensions (n ∷ ns) = ns

-- the elements of an array from i on, each of which is of these dimensions
abbrev pub rest_from : Moment → Filling → List ℕ → ℕ → Doing → Doing
rest_from e f ns i d = filled_from e f.array (arrays_made e f.inner ns) i (f.count - i) d

-- what is still to be done: the last array gets its elements, and then it is an element of the one before
abbrev pub with_filled : Moment → List Filling → List ℕ → Doing → Doing
with_filled e [] ns d = d
with_filled e (f ∷ []) ns d = rest_from e f ns f.next d
with_filled e (f ∷ g ∷ up) ns d = rest_from e f ns (f.next + 1) (slot_written e f.array f.next (Ref g.array) (with_filled e (g ∷ up) (inner_dimensions ns) d))

-- how many elements of an array are made: none in the last dimension
abbrev pub element_count : ℕ → List ℕ → ℕ
element_count n [] = 0
element_count n (m ∷ more) = n

-- an array as its elements begin to be made
abbrev pub first_filling : Moment → ℕ → ℕ → ℕ → List ℕ → Filling
first_filling e o c n ns = record { array = o; inner = element_class (class_at e.program c).info.element; next = 0; count = element_count n ns }

-- one element more is there
abbrev pub next_filling : Filling → Filling
next_filling f = record { array = f.array; inner = f.inner; next = f.next + 1; count = f.count }

-- an array under way has room for its elements, and it has some only where there are more dimensions
pub record IsFilling (heap : Objects) (dimensions p : ℕ) (f : Filling) : Type 0 where
  pub held : IsHeld heap f.array
  pub room : f.count ≤ length (object_at heap f.array).slots
  pub next : f.next ≤ f.count
  pub deep : 0 < f.count → p + 1 < dimensions

abbrev pub AreFillings : Objects → ℕ → ℕ → List Filling → Type 0
AreFillings heap dimensions p [] = ⊥
AreFillings heap dimensions p (f ∷ []) = IsFilling heap dimensions p f
AreFillings heap dimensions p (f ∷ g ∷ up) = IsFilling heap dimensions p f × (f.next < f.count) × AreFillings heap dimensions (p + 1) (g ∷ up)
