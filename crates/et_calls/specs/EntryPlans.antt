-- What a thread without a frame comes to as it is entered, as a plan.
use Rattle.std.specs.Prelude.{◌≡◌, ℕ, ◌<◌, length}
use Rattle.et_program.specs.Entries.{Linked}
use Rattle.et_state.specs.declared.class_state.ClassState.TheVariants.{Untouched}
use Rattle.et_state.specs.Outcome.{Outcome}
use Rattle.et_state.specs.State.{Kept, MachineState}
use Rattle.et_state.specs.Words.{class_state_at}
use Rattle.et_event.specs.Calls.{enters_first, entry_arguments}
use Rattle.et_event.specs.Initialization.{begins_class, prepared}
use Rattle.et_event.specs.Moments.{Moment, begins, ill_typed, throws, waits}
use Rattle.et_calls.specs.declared.entry.plans.EntryPlan.{EntryPlan}
use Rattle.et_calls.specs.declared.entry.plans.EntryPlan.TheVariants.{IllTyped, Throws, Waits, Initializes, Enters}
use Rattle.et_calls.specs.Asked.{IsFirst}

-- the event of a plan
abbrev pub entry_planned : Moment → EntryPlan → Outcome Kept
entry_planned e IllTyped = ill_typed e
entry_planned e (Throws error) = throws e error (begins e)
entry_planned e Waits = waits e
entry_planned e (Initializes class) = begins_class e class (begins e)
entry_planned e (Enters first) = enters_first e (prepared e first.classes.now (begins e)) (entry_arguments first.argument) first.method

-- the class is one of the program and untouched; the method may be entered
abbrev pub IsEntryPlan : Linked → MachineState → ℕ → EntryPlan → Type 0
IsEntryPlan p m t (Initializes class) = (class < length p.classes) × (class_state_at m.guest class ≡ Untouched)
IsEntryPlan p m t (Enters first) = IsFirst p m t first
IsEntryPlan p m t plan = Unit {0}
