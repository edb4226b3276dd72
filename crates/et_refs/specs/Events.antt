-- The event of multianewarray in parts: what goes on behind each check.
use Rattle.std.specs.Prelude.{ℕ, ℤ, pos, int_le, List, ◌∷◌}
use Rattle.std.specs.List.{list_all}
use Rattle.et_base.specs.declared.value.Value.{Value}
use Rattle.et_base.specs.declared.value.Value.TheVariants.{Ref}
use Rattle.et_state.specs.State.{Kept}
use Rattle.et_state.specs.Outcome.{Outcome}
use Rattle.et_event.specs.declared.errors.GuestError.TheVariants.{NegativeArraySizeException}
use Rattle.et_event.specs.Checks.{throws_unless}
use Rattle.et_event.specs.Heap.{arrays_made, naturals, resolved_class}
use Rattle.et_event.specs.Moments.{Moment, current_frame, begins, with_frame, next_object, ends_event}

-- arrays of a class with these lengths take the place of the lengths, and the pc is the one behind the instruction
abbrev pub new_arrays_outcome : Moment → ℕ → List ℤ → List Value → ℕ → Outcome Kept
new_arrays_outcome e next lengths below class =
    ends_event (with_frame e (record (current_frame e) { pc = next; operands = Ref (next_object (begins e)) ∷ below }) (arrays_made e class (naturals lengths) (begins e)))

-- .. where none of them is less than 0
abbrev pub unless_negative : Moment → List ℤ → (ℕ → Outcome Kept) → ℕ → Outcome Kept
unless_negative e lengths go class = throws_unless e (begins e) NegativeArraySizeException (list_all (int_le (pos 0)) lengths) (go class)

-- .. and the class is there
abbrev pub with_checked_class : Moment → List ℕ → List ℤ → (ℕ → Outcome Kept) → Outcome Kept
with_checked_class e name lengths go = resolved_class e (begins e) name (unless_negative e lengths go)
