-- CALLS, RETURNS AND ENTRY (JVMS 2.6, 2.11.8, and 6.5 invokevirtual, invokespecial, invokestatic, invokeinterface and the
-- returns).
use Rattle.std.specs.Prelude.{ℕ, ◌+◌, ◌==◌, ◌&&◌, not, nat_le, Bool, true, false, if◌then◌else◌, List, [], ◌∷◌, length, map, take, drop, reverse, sum_by, codes, Option, Some, None, unwrap_or}
use Rattle.std.specs.Option.{option_map_or}
use Rattle.et_base.specs.declared.value.Value.{Value}
use Rattle.et_base.specs.declared.value.Value.TheVariants.{Int, Long, LongHigh, Null, Ref}
use Rattle.et_class.specs.Descriptors.{MethodType, method_type, width_of}
use Rattle.et_program.specs.Entries.{Linked, class_at, method_at, is_static}
use Rattle.et_program.specs.Members.{is_subclass}
use Rattle.et_program.specs.Resolution.{resolve_class, resolve_method, select, select_special}
use Rattle.et_program.specs.declared.info.Element.{Element}
use Rattle.et_program.specs.declared.info.Element.TheVariants.{NoArray, Base, Class}
use Rattle.et_state.specs.declared.stage.Stage.{Stage}
use Rattle.et_state.specs.declared.stage.Stage.TheVariants.{Plain, Before, Clinit}
use Rattle.et_state.specs.Threads.{popped, rest_of, as_entered}
use Rattle.et_state.specs.declared.class_state.ClassState.TheVariants.{Done}
use Rattle.et_state.specs.State.{Kept}
use Rattle.et_state.specs.Words.{thread_at}
use Rattle.et_state.specs.declared.records.Record.TheVariants.{Exit}
use Rattle.et_state.specs.Outcome.{Outcome}
use Rattle.et_class.specs.PoolOperands.Operand.{Operand}
use Rattle.et_class.specs.PoolOperands.Operand.TheVariants as operand
use Rattle.et_event.specs.declared.rows.CallKind.{CallKind}
use Rattle.et_event.specs.declared.rows.CallKind.TheVariants.{Virtual, Special, Static, Interface}
use Rattle.et_event.specs.declared.rows.CallRow.{CallRow}
use Rattle.et_event.specs.declared.rows.CallRow.TheVariants as row
use Rattle.et_event.specs.declared.errors.GuestError.TheVariants.{AbstractMethodError, IllegalMonitorStateException, IncompatibleClassChangeError}
use Rattle.et_event.specs.Errors.{class_called}
use Rattle.et_event.specs.Moments.{Moment, Doing, thread_of, current_frame, begins, told, with_thread_state, with_frame, object_class, ill_typed, goes, throws}
use Rattle.et_event.specs.Checks.{with_value, entries_of, ill_typed_unless, resolved, after_selection, throws_unless, not_null}
use Rattle.et_event.specs.Sites.{Site, Member, site_member, names_interface, running_method}
use Rattle.et_class.specs.Operands.{operand_kind, may_return, returned_width}
use Rattle.et_event.specs.Initialization.{initialized, with_state}
use Rattle.et_event.specs.Monitors.{lock_in, owns_some, left_some}
use Rattle.et_event.specs.Frames.{first_reference, enters, frames_after_return}
use Rattle.et_event.specs.BuiltIns.{built_in_event, takes_arguments}

-- ARGUMENTS, in the order of the locals: a long is its value and then its upper half

-- the first entries are a value of the kind, and the rest passes a test; no value is of no kind
abbrev pub begin_with : Option Operand → (List Value → Bool) → List Value → Bool
begin_with (Some operand.Int) rest (Int n ∷ vs) = rest vs
begin_with (Some operand.Long) rest (Long n ∷ LongHigh ∷ vs) = rest vs
begin_with (Some operand.Reference) rest (Null ∷ vs) = rest vs
begin_with (Some operand.Reference) rest (Ref o ∷ vs) = rest vs
begin_with kind rest vs = false

abbrev pub is_empty : List Value → Bool
is_empty [] = true
is_empty (v ∷ vs) = false

-- these are values of the kinds, and no others
abbrev pub are_of : List (Option Operand) → List Value → Bool
are_of [] vs = is_empty vs
are_of (kind ∷ kinds) vs = begin_with kind (are_of kinds) vs

-- .. behind a receiver, where the method isn't static
abbrev pub are_passed : Bool → List (Option Operand) → List Value → Bool
are_passed true kinds vs = are_of kinds vs
are_passed false kinds vs = begin_with (Some operand.Reference) (are_of kinds) vs

-- these are arguments of the type
abbrev pub are_arguments : Bool → MethodType → List Value → Bool
are_arguments static type vs = are_passed static (map operand_kind type.parameters) vs

-- how many entries they take
abbrev pub entry_count : Bool → MethodType → ℕ
entry_count static type = sum_by width_of type.parameters + (if static then 0 else 1)

abbrev pub arguments_of : Moment → ℕ → List Value
arguments_of e count = reverse (take count (current_frame e).operands)

abbrev pub is_static_call : CallKind → Bool
is_static_call Static = true
is_static_call other = false

-- 1. the arguments are there, and what is returned will fit max_stack
abbrev pub call_fits : Moment → Bool → MethodType → Bool
call_fits e static type =
    let count = entry_count static type in
    are_arguments static type (arguments_of e count) && nat_le (length (drop count (current_frame e).operands) + returned_width type.returned) (current_frame e).room

-- what is no method is met by no operands
abbrev pub with_type : Moment → Option MethodType → (MethodType → Outcome Kept) → Outcome Kept
with_type e None go = ill_typed e
with_type e (Some type) go = go type

abbrev pub with_method : Moment → Option Member → (Member → MethodType → Outcome Kept) → Outcome Kept
with_method e None go = ill_typed e
with_method e (Some m) go = with_type e (method_type m.descriptor) (go m)

-- THE METHOD THAT IS ENTERED

-- the arguments are taken from the caller, which stays at its call
abbrev pub taking : Moment → ℕ → Doing → Doing
taking e count d = with_frame e (popped count (current_frame e)) d

-- 10 to 13
abbrev pub enters_method : Moment → Site → Doing → List Value → ℕ → Outcome Kept
enters_method e at d arguments m =
    enters e d (taking e (length arguments)) m arguments (built_in_event e at d arguments (method_at e.program m))

-- 7. the receiver is of the class that declares the resolved method
abbrev pub is_of_owner : Moment → Doing → ℕ → ℕ → Bool
is_of_owner e d m o = is_subclass e.program (object_class d o) (method_at e.program m).class

-- .. and that method takes the arguments, whatever is selected then. No method of an interface tests one
abbrev pub fits_resolved : Moment → Doing → List Value → ℕ → ℕ → Bool
fits_resolved e d arguments m o = is_of_owner e d m o && takes_arguments e d arguments m

-- an array that invokespecial names stands for Object
abbrev pub class_or : ℕ → ℕ → Element → ℕ
class_or object c NoArray = c
class_or object c (Base kind) = object
class_or object c (Class class) = object

abbrev pub special_class : Linked → ℕ → ℕ
special_class p c = class_or (class_called p (codes "java/lang/Object")) c (class_at p c).info.element

-- 5 to 8. from the resolved method m of the class that is named
abbrev pub dispatched : Moment → Site → CallKind → List Value → ℕ → ℕ → Outcome Kept
dispatched e at Static arguments named m =
    initialized e (begins e) (method_at e.program m).class (λ d. enters_method e at d arguments m)
dispatched e at Virtual arguments named m =
    not_null e (begins e) (first_reference arguments) (λ o.
    ill_typed_unless e (fits_resolved e (begins e) arguments m o)
    (after_selection e (begins e) (select e.program (object_class (begins e) o) m false) (enters_method e at (begins e) arguments)))
dispatched e at Special arguments named m =
    not_null e (begins e) (first_reference arguments) (λ o.
    ill_typed_unless e (fits_resolved e (begins e) arguments m o)
    (after_selection e (begins e) (select_special e.program at.class (special_class e.program named) m) (enters_method e at (begins e) arguments)))
dispatched e at Interface arguments named m =
    not_null e (begins e) (first_reference arguments) (λ o.
    after_selection e (begins e) (select e.program (object_class (begins e) o) m true) (enters_method e at (begins e) arguments))

abbrev pub is_as : Bool → Bool → Bool
is_as true b = b
is_as false b = not b

abbrev pub invoke : Moment → Site → CallKind → Outcome Kept
invoke e at kind =
    with_method e (site_member at) (λ m type.
    ill_typed_unless e (call_fits e (is_static_call kind) type)
    (resolved e (begins e) (resolve_class e.program m.owner) (λ owner.
    resolved e (begins e) (resolve_method e.program owner (names_interface at) m.name m.descriptor) (λ method.
    throws_unless e (begins e) IncompatibleClassChangeError (is_as (is_static_call kind) (is_static e.program method))
    (dispatched e at kind (arguments_of e (entry_count (is_static_call kind) type)) owner method)))))

-- RETURNS

-- the entries that are returned
abbrev pub with_returned : Option Operand → (refused : Outcome Kept) → List Value → (List Value → Outcome Kept) → Outcome Kept
with_returned None refused ops go = go []
with_returned (Some kind) refused ops go = with_value (Some kind) refused ops (λ v below. go (entries_of v))

abbrev pub class_done_by : Stage → Doing → Doing
class_done_by Plain d = d
class_done_by (Before c) d = d
class_done_by (Clinit c) d = with_state c Done d

-- the frame is dropped, its monitor left, and the class of an initializer is done
abbrev pub frame_returned : Moment → List Value → Doing → Doing
frame_returned e values d =
    let f = current_frame e in
    let x = class_done_by f.stage (left_some (lock_in f.stage (running_method e.program f) f.lock) d) in
    told (Exit x.state.guest.clock e.thread (unwrap_or f.method 0))
    (with_thread_state e (record (thread_of e) { frames = frames_after_return e.program f.stage values (rest_of (thread_of e).frames) }) x)

-- what the method of the frame returns, by its descriptor
abbrev pub returned_by : Moment → List ℕ
returned_by e = option_map_or (λ (type : MethodType). type.returned) (method_type (running_method e.program (current_frame e)).descriptor) []

abbrev pub return : Moment → Option Operand → Outcome Kept
return e kind =
    ill_typed_unless e (may_return kind (returned_by e))
    (with_returned kind (ill_typed e) (current_frame e).operands (λ values.
    throws_unless e (begins e) IllegalMonitorStateException (owns_some e (begins e) (lock_in (current_frame e).stage (running_method e.program (current_frame e)) (current_frame e).lock))
    (goes (frame_returned e values (begins e)))))

abbrev pub call_event : Moment → Site → CallRow → Outcome Kept
call_event e at (row.Invoke kind) = invoke e at kind
call_event e at (row.Return kind) = return e kind

-- ENTRY: thread 0 enters `main`, whose class is initialized first; each other thread calls `run ()V` on its Thread object.
-- The entry slot is emptied as the frame is entered or the call throws.

abbrev pub entering_frame : Moment → Doing → Doing
entering_frame e d = with_thread_state e (as_entered (thread_at d.state.guest e.thread)) d

abbrev pub entry_arguments : Option ℕ → List Value
entry_arguments None = []
entry_arguments (Some o) = Ref o ∷ []

-- a method that is entered has code; no built-in without code is selected here
abbrev pub enters_first : Moment → Doing → List Value → ℕ → Outcome Kept
enters_first e d arguments m = enters e d (entering_frame e) m arguments (throws e AbstractMethodError d)

abbrev pub enters_main : Moment → Outcome Kept
enters_main e =
    initialized e (begins e) (method_at e.program e.program.main).class (λ d.
    enters_first e d (entry_arguments (thread_of e).entry) e.program.main)

abbrev pub enters_run : Moment → Option ℕ → Outcome Kept
enters_run e None = ill_typed e
enters_run e (Some o) =
    resolved e (begins e) (resolve_method e.program (class_called e.program (codes "java/lang/Thread")) false (codes "run") (codes "()V")) (λ m.
    ill_typed_unless e (is_of_owner e (begins e) m o)
    (after_selection e (begins e) (select e.program (object_class (begins e) o) m false) (enters_first e (begins e) (Ref o ∷ []))))

abbrev pub entry_call : Moment → Outcome Kept
entry_call e = if e.thread == 0 then enters_main e else enters_run e (thread_of e).object
