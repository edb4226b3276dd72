-- What a return hands to the caller.
use Rattle.std.specs.Prelude.{ℕ, ◌+◌, ◌≤◌, if◌then◌else◌, List, [], ◌∷◌, length, Option, Some, None, option_map}
use Rattle.et_base.specs.declared.value.Value.{Value}
use Rattle.et_base.specs.declared.value.Value.TheVariants.{Int, Long, LongHigh, Null, Ref}
use Rattle.et_state.specs.declared.stage.Stage.{Stage}
use Rattle.et_state.specs.declared.stage.Stage.TheVariants.{Plain, Before, Clinit}
use Rattle.et_state.specs.Threads.{FrameState}
use Rattle.et_event.specs.PoolOperands.Operand.{Operand}
use Rattle.et_event.specs.PoolOperands.Operand.TheVariants as operand
use Rattle.et_state.specs.State.{Kept}
use Rattle.et_state.specs.Outcome.{Outcome}
use Rattle.et_event.specs.declared.errors.GuestError.TheVariants.{IllegalMonitorStateException}
use Rattle.et_event.specs.Calls.{frame_returned}
use Rattle.et_event.specs.Checks.{with_value, entries_of, throws_unless}
use Rattle.et_event.specs.Moments.{Moment, begins, current_frame, goes}
use Rattle.et_event.specs.Monitors.{lock_in, owns_some}
use Rattle.et_event.specs.Sites.{running_method}
use Rattle.et_event.specs.Operands.{may_return}
use Rattle.et_event.specs.Tops.{IsIn}

-- the value of a kind that stands on top
abbrev pub returned_value : Operand → List Value → Option Value
returned_value kind ops = with_value (Some kind) None ops (λ v below. Some v)

-- .. by its upper entry and the one below
abbrev pub value_in : Operand → Value → Value → Option Value
value_in operand.Int (Int n) below = Some (Int n)
value_in operand.Long LongHigh (Long n) = Some (Long n)
value_in operand.Reference Null below = Some Null
value_in operand.Reference (Ref o) below = Some (Ref o)
value_in kind top below = None

-- the entries that are returned
abbrev pub returned_entries : Option Value → List Value
returned_entries None = []
returned_entries (Some v) = entries_of v

-- what is returned; none where it isn't there
abbrev pub values_of : Option Operand → List Value → Option (Option Value)
values_of None ops = Some None
values_of (Some kind) ops = option_map (λ v. Some v) (returned_value kind ops)

-- .. or where the method doesn't return that
abbrev pub returned_values : Option Operand → List ℕ → List Value → Option (Option Value)
returned_values kind returned ops = if may_return kind returned then values_of kind ops else None

-- the event in which this is returned
abbrev pub returning_frame : Moment → Option Value → Outcome Kept
returning_frame e value =
    throws_unless e (begins e) IllegalMonitorStateException (owns_some e (begins e) (lock_in (current_frame e).stage (running_method e.program (current_frame e)) (current_frame e).lock))
    (goes (frame_returned e (returned_entries value) (begins e)))

-- what the value refers to stands in the frame
abbrev pub IsValueIn : FrameState → Option Value → Type 0
IsValueIn f None = Unit {0}
IsValueIn f (Some v) = IsIn f v

abbrev pub AreValuesIn : FrameState → Option (Option Value) → Type 0
AreValuesIn f None = Unit {0}
AreValuesIn f (Some v) = IsValueIn f v

-- what a frame of this stage returns fits the frame below it
abbrev pub FitsBelow : Stage → List Value → List FrameState → Type 0
FitsBelow Plain values [] = Unit {0}
FitsBelow Plain values (f ∷ below) = length values + length f.operands ≤ f.room
FitsBelow (Before c) values below = Unit {0}
FitsBelow (Clinit c) values below = Unit {0}
