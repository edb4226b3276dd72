-- What an invoke comes to, as a plan.
use Rattle.std.specs.Prelude.{◌≡◌, ℕ, ◌+◌, ◌<◌, ◌≤◌, ◌||◌, Bool, true, false, List, length, drop, option_and_then, Option, Some, None, Result, Ok, Err}
use Rattle.et_state.specs.State.{Kept}
use Rattle.et_state.specs.declared.class_state.ClassState.TheVariants.{Untouched}
use Rattle.et_base.specs.declared.value.Value.{Value}
use Rattle.et_program.specs.Entries.{Linked, method_at, is_static}
use Rattle.et_program.specs.Resolution.{select, select_special}
use Rattle.et_program.specs.declared.errors.LinkError.{LinkError}
use Rattle.et_state.specs.Outcome.{Outcome}
use Rattle.et_event.specs.declared.rows.CallKind.{CallKind}
use Rattle.et_event.specs.declared.rows.CallKind.TheVariants.{Special, Static, Interface}
use Rattle.et_event.specs.declared.errors.GuestError.{GuestError}
use Rattle.et_event.specs.Calls.{arguments_of, dispatched, enters_method, fits_resolved, special_class}
use Rattle.et_event.specs.Frames.{first_reference}
use Rattle.et_event.specs.Moments.{Moment, begins, current_frame, ill_typed, throws, waits}
use Rattle.et_event.specs.Initialization.{state_of}
use Rattle.et_event.specs.Operands.{returned_width}
use Rattle.et_event.specs.Selected.{passed_at, selected_on}
use Rattle.et_event.specs.Sites.{Site}
use Rattle.et_event.specs.Sound.{returned_of}
use Rattle.et_builtins.specs.declared.plans.CallPlan.{CallPlan}
use Rattle.et_builtins.specs.declared.plans.CallPlan.TheVariants.{IllTyped, Throws, Waits, Initializes, Enters}

-- the event of a plan
abbrev pub call_planned : Moment → Site → CallPlan → Outcome Kept
call_planned e at IllTyped = ill_typed e
call_planned e at (Throws error) = throws e error (begins e)
call_planned e at Waits = waits e
call_planned e at (Initializes method count) = dispatched e at Static (arguments_of e count) 0 method
call_planned e at (Enters method count) = enters_method e at (begins e) (arguments_of e count) method

-- .. is that of the row of an invoke of a kind, of a method that was resolved in a named class
abbrev pub IsPlanOf : Moment → Site → CallKind → (named method count : ℕ) → CallPlan → Type 0
IsPlanOf e at kind named method count plan = dispatched e at kind (arguments_of e count) named method ≡ call_planned e at plan

-- ON A RECEIVER

-- it is called by an interface, which asks for no more than what is selected
abbrev pub is_interface_call : CallKind → Bool
is_interface_call Interface = true
is_interface_call other = false

abbrev pub fits_in_kind : Moment → CallKind → List Value → (method receiver : ℕ) → Bool
fits_in_kind e kind arguments method receiver = is_interface_call kind || fits_resolved e (begins e) arguments method receiver

-- what an invoke of a kind selects in a method of the current class, for a receiver of this class
abbrev pub selection_in : Linked → CallKind → (current named method class : ℕ) → Result ℕ LinkError
selection_in p Special current named method class = select_special p current (special_class p named) method
selection_in p kind current named method class = select p class method (is_interface_call kind)

-- what that row selects
abbrev pub entered_by : Moment → Site → CallKind → (named method count : ℕ) → Option ℕ
entered_by e at kind named method count = option_and_then (selected_on e at kind (arguments_of e count) named method) (first_reference (arguments_of e count))

-- what the method returns will fit once its arguments are taken
abbrev pub HasCallRoom : Moment → ℕ → ℕ → Type 0
HasCallRoom e method count = length (drop count (current_frame e).operands) + returned_width (returned_of (method_at e.program method)) ≤ (current_frame e).room

-- the method is one of the program, the arguments are there, and what it returns will fit; a class that is initialized first is
-- untouched, and its method static
abbrev pub IsCallPlan : Moment → CallPlan → Type 0
IsCallPlan e (Initializes method count) = (method < length e.program.methods) × (count ≤ length (current_frame e).operands) × (state_of (begins e) (method_at e.program method).class ≡ Untouched) × (is_static e.program method ≡ true)
IsCallPlan e (Enters method count) = (method < length e.program.methods) × (count ≤ length (current_frame e).operands) × HasCallRoom e method count
IsCallPlan e plan = Unit {0}

-- the method is entered with so many entries
abbrev pub HasCount : ℕ → CallPlan → Type 0
HasCount count (Enters method n) = n ≡ count
HasCount count other = Unit {0}

-- .. which are those that the invoke passes
abbrev pub IsPassing : Moment → Site → CallKind → CallPlan → Type 0
IsPassing e at kind (Enters method count) = arguments_of e count ≡ passed_at e at kind
IsPassing e at kind other = Unit {0}

-- what was resolved, or the error that is thrown
abbrev pub resolving : Moment → Result (ℕ × ℕ) GuestError → (ℕ → ℕ → Outcome Kept) → Outcome Kept
resolving e (Ok x) go = go x.0 x.1
resolving e (Err error) go = throws e error (begins e)

-- the method that is entered
abbrev pub method_entered : CallPlan → Option ℕ
method_entered (Enters method count) = Some method
method_entered other = None
