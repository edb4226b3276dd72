-- What an event has come to that initializes classes.
use Rattle.std.specs.Prelude.{◌≡◌, ℕ, ◌<◌, ◌≤◌, ◌⊎◌, List, Contains, length, slice_index_or}
use Rattle.et_base.specs.declared.value.Value.TheVariants.{Unset}
use Rattle.et_state.specs.declared.class_state.ClassState.TheVariants.{Untouched}
use Rattle.et_state.specs.State.{Kept, MachineState}
use Rattle.et_state.specs.Words.{begun, class_state_at, static_at}
use Rattle.et_state.specs.Interned.{interned_objects}
use Rattle.et_state.specs.Roots.{roots_of}
use Rattle.et_state.specs.Moves.{IsUnderWay}
use Rattle.et_program.specs.Entries.{Linked, field_at}
use Rattle.et_event.specs.Moments.{Doing}
use Rattle.et_event.specs.Telling.{with_kept}

-- a machine whose event has come to what was done, and lost nothing
abbrev pub base : MachineState → Doing → MachineState
base m d = with_kept (begun m) d.state

-- The class of a static slot.
abbrev pub class_of_slot : Linked → ℕ → ℕ
class_of_slot p i = (field_at p (slice_index_or p.statics i 0)).class

-- THE STATE IS READY for the constants of a class: nothing was written to a static field whose class is untouched, and the
-- strings of constants were made
pub record IsInitializing (p : Linked) (k : Kept) : Type 0 where
  pub classes : length k.guest.classes ≡ length p.classes
  pub statics : length k.guest.statics ≡ length p.statics
  pub untouched : (i : ℕ) → i < length p.statics → class_state_at k.guest (class_of_slot p i) ≡ Untouched → static_at k.guest i ≡ Unset
  pub strings : (o : ℕ) → Contains (interned_objects k.guest.interned) o → o < length k.heap

-- THE EVENT IS UNDER WAY from the state s. It put into root places only what stood in one before or what it made, and what
-- it made are the strings of constants.
pub record HasMadeStrings (s k : Kept) (lost : List ℕ) : Type 0 where
  pub way : IsUnderWay s k lost
  pub roots : (o : ℕ) → Contains (roots_of k.guest) o → Contains (roots_of s.guest) o ⊎ (length s.heap ≤ o)
  pub made : (o : ℕ) → length s.heap ≤ o → o < length k.heap → Contains (interned_objects k.guest.interned) o
  pub grown : length s.heap ≤ length k.heap
