-- The strings that the constants of classes make, counted before they are made.
use Rattle.std.specs.Prelude.{◌≡◌, ℕ, ◌+◌, ◌*◌, ◌<◌, ◌&&◌, ◌||◌, ◌⊎◌, Bool, true, false, nat_le, List, All, length, slice_index_or, Option, Some, is_some, codes}
use Rattle.std.specs.List.{list_any}
use Rattle.std.specs.Option.{option_map_or}
use Rattle.std.specs.Str.{bytes_eq}
use Rattle.et_pool.specs.Looks.{string_at}
use Rattle.et_heap.specs.Objects.{Objects, made_count, slot_count, most_objects, most_slots}
use Rattle.et_state.specs.declared.class_state.ClassState.TheVariants.{Untouched, Done}
use Rattle.et_state.specs.State.{Kept, MachineState}
use Rattle.et_state.specs.Interned.{object_of}
use Rattle.et_state.specs.Words.{class_state_at}
use Rattle.et_program.specs.Entries.{Linked, class_at, field_at}
use Rattle.et_event.specs.Errors.{class_called}
use Rattle.et_event.specs.Moments.{Moment, Doing}
use Rattle.et_event.specs.Sites.{pool_of_class}

-- the bytes of the constant of a field, where that is a string
abbrev pub constant_text : Linked → ℕ → Option (List ℕ)
constant_text p f = string_at (pool_of_class p (field_at p f).class) (field_at p f).constant

abbrev pub has_text : Linked → List ℕ → ℕ → Bool
has_text p bytes f = option_map_or (bytes_eq bytes) (constant_text p f) false

abbrev pub string_slots : Linked → ℕ
string_slots p = (class_at p (class_called p (codes "java/lang/String"))).info.slots

-- so many strings, of so many slots each, and so many objects and slots besides may be made
abbrev pub has_room_for : Objects → ℕ → ℕ → ℕ → ℕ → Bool
has_room_for heap strings each objects slots =
    nat_le (made_count heap + strings + objects) most_objects && nat_le (slot_count heap + strings * each + slots) most_slots

-- the string of these bytes is there
abbrev pub is_text_known : Doing → List ℕ → Bool
is_text_known d t = is_some (object_of d.state.guest.interned t)

-- what was done made the strings of the fields that were seen, and nothing else
pub record Counted (p : Linked) (m : MachineState) (seen : List ℕ) (d : Doing) : Type 0 where
  pub known : (t : List ℕ) → is_text_known d t ≡ (is_some (object_of m.guest.interned t) || list_any (has_text p t) seen)
  pub objects : length d.state.heap ≡ length m.heap + length seen
  pub slots : slot_count d.state.heap ≡ slot_count m.heap + length seen * string_slots p

-- the fields that were added to those seen are those whose strings are made by this
abbrev pub Adds : Linked → MachineState → List ℕ → List ℕ → (Moment → Doing → Doing) → Type 0
Adds p m seen seen' act =
    (before : Kept) (thread : ℕ) (d : Doing) → Counted p m seen d → Counted p m seen' (act (record { program = p; before = before; thread = thread }) d)

-- the strings of these fields are there
abbrev pub AreKnown : Linked → List ℕ → Doing → Type 0
AreKnown p fs d = (i : ℕ) → i < length fs → (bytes : List ℕ) → constant_text p (slice_index_or fs i 0) ≡ Some bytes → is_text_known d bytes ≡ true

-- the class became done, and the strings of its constants are there
pub record BecameDone (p : Linked) (m : MachineState) (d : Doing) (c : ℕ) : Type 0 where
  pub was : class_state_at m.guest c ≡ Untouched
  pub is : class_state_at d.state.guest c ≡ Done
  pub texts : AreKnown p (class_at p c).info.constants d

-- .. and no other class changed
pub record CountedAll (p : Linked) (m : MachineState) (seen : List ℕ) (d : Doing) : Type 0 where
  pub counted : Counted p m seen d
  pub marks : (c : ℕ) → (class_state_at d.state.guest c ≡ class_state_at m.guest c) ⊎ BecameDone p m d c
  pub classes : length d.state.guest.classes ≡ length p.classes

-- the fields that were added to those seen are those whose strings are made as classes become done by this
abbrev pub AddsOfDone : Linked → MachineState → List ℕ → List ℕ → (Moment → Doing → Doing) → Type 0
AddsOfDone p m seen seen' act =
    (before : Kept) (thread : ℕ) (d : Doing) → CountedAll p m seen d → CountedAll p m seen' (act (record { program = p; before = before; thread = thread }) d)

-- fields of the program
abbrev pub AreFields : Linked → List ℕ → Type 0
AreFields p fs = All (λ f. f < length p.fields) fs

-- the strings may be counted that constants of classes make, besides those that were seen
pub record MayCount (p : Linked) (m : MachineState) (seen : List ℕ) : Type 0 where
  pub classes : length m.guest.classes ≡ length p.classes
  pub within : AreFields p seen
