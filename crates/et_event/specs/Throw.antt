-- EXCEPTIONS (JVMS 2.10, 6.5 athrow, 4.7.3, and 5.5 for failed initializers).
use Rattle.std.specs.Prelude.{ℕ, ◌==◌, ◌&&◌, ◌||◌, nat_le, nat_lt, Bool, false, if◌then◌else◌, List, [], ◌∷◌, codes, Option, Some, None, find, unwrap_or}
use Rattle.std.specs.List.{list_any}
use Rattle.et_base.specs.declared.value.Value.TheVariants.{Ref}
use Rattle.et_class.specs.Entries.{Item}
use Rattle.et_class.specs.Looks.{class_name_at}
use Rattle.et_code.specs.declared.body.TableRow.{TableRow}
use Rattle.et_program.specs.Entries.{Linked}
use Rattle.et_program.specs.Members.{class_named, lineage, is_subclass}
use Rattle.et_state.specs.declared.stage.Stage.{Stage}
use Rattle.et_state.specs.declared.stage.Stage.TheVariants.{Plain, Before, Clinit}
use Rattle.et_state.specs.Threads.{FrameState, with_pending, with_top_of, without_top}
use Rattle.et_state.specs.declared.class_state.ClassState.TheVariants.{Failed}
use Rattle.et_state.specs.State.{Kept}
use Rattle.et_state.specs.Words.{thread_at}
use Rattle.et_state.specs.declared.records.Record.TheVariants.{Unwind}
use Rattle.et_state.specs.Outcome.{Outcome}
use Rattle.et_event.specs.declared.errors.GuestError.TheVariants.{ExceptionInInitializerError}
use Rattle.et_event.specs.Errors.{class_called, error_class}
use Rattle.et_event.specs.Moments.{Moment, Doing, thread_of, current_frame, begins, told, with_thread_state, object_class, next_object, instance_made, slot_written, pending_now, ill_typed, goes, ends_event}
use Rattle.et_event.specs.Checks.{with_reference, ill_typed_unless, not_null}
use Rattle.et_event.specs.Sites.{running_method, code_of_frame, pool_of_class}
use Rattle.et_event.specs.Initialization.{with_state}
use Rattle.et_event.specs.Monitors.{Lock, lock_in, owns, left}

-- athrow
abbrev pub is_throwable : Moment → ℕ → Bool
is_throwable e o = is_subclass e.program (object_class (begins e) o) (class_called e.program (codes "java/lang/Throwable"))

abbrev pub throw : Moment → Outcome Kept
throw e =
    with_reference (ill_typed e) (current_frame e).operands (λ r below.
    not_null e (begins e) r (λ o.
    ill_typed_unless e (is_throwable e o) (goes (pending_now e o (begins e)))))

-- HANDLERS: the first row of the exception table whose range has the pc, and which catches all, or the exception's class
-- or one above it. An interface, and what is no class of the program, catches nothing

abbrev pub is_above_or_same : Linked → ℕ → Option ℕ → Bool
is_above_or_same p class None = false
is_above_or_same p class (Some k) = list_any (λ c. c == k) (lineage p class)

abbrev pub catches_name : Linked → ℕ → Option (List ℕ) → Bool
catches_name p class None = false
catches_name p class (Some name) = is_above_or_same p class (class_named p name)

abbrev pub catches : Linked → List (Option Item) → ℕ → ℕ → TableRow → Bool
catches p pool pc class row =
    nat_le row.start pc && nat_lt pc row.end && ((row.catch == 0) || catches_name p class (class_name_at pool row.catch))

abbrev pub handler_of : Linked → FrameState → ℕ → Option TableRow
handler_of p f class = find (catches p (pool_of_class p (running_method p f).class) f.pc class) (code_of_frame p f).table

-- AN UNWINDING STEP: a handler is entered, or one frame is dropped

abbrev pub handled : FrameState → ℕ → ℕ → FrameState
handled f pc o = record f { pc = pc; operands = Ref o ∷ [] }

abbrev pub caught : Moment → ℕ → ℕ → Outcome Kept
caught e o handler =
    ill_typed_unless e (nat_lt 0 (current_frame e).room)
    (goes (with_thread_state e (with_pending None (with_top_of (thread_of e) (handled (current_frame e) handler o))) (begins e)))

-- the frame's monitor is left once, where this thread owns it
abbrev pub left_if_owned : Moment → Option Lock → Doing → Doing
left_if_owned e None d = d
left_if_owned e (Some lock) d = if owns e d lock then left lock d else d

abbrev pub dropped : Moment → Doing → Doing
dropped e d = with_thread_state e (without_top (thread_at d.state.guest e.thread)) d

-- an initializer failed: an exception that is no Error is replaced by a new ExceptionInInitializerError with it as cause
abbrev pub is_error : Moment → ℕ → Bool
is_error e o = is_subclass e.program (object_class (begins e) o) (class_called e.program (codes "java/lang/Error"))

abbrev pub replaced : Moment → ℕ → Doing → Doing
replaced e o d =
    let error = next_object d in
    pending_now e error (slot_written e error 1 (Ref o) (instance_made e (error_class e.program ExceptionInInitializerError) d))

abbrev pub failed : Moment → ℕ → ℕ → Doing → Doing
failed e c o d =
    let x = with_state c Failed d in
    if is_error e o then x else replaced e o x

-- the frame is dropped; one whose <clinit> was not entered gives no record
abbrev pub unwound : Moment → ℕ → Outcome Kept
unwound e o =
    let f = current_frame e in
    goes (told (Unwind (begins e).state.guest.clock e.thread (unwrap_or f.method 0) o)
    (dropped e (left_if_owned e (lock_in f.stage (running_method e.program f) f.lock) (begins e))))

abbrev pub unwound_clinit : Moment → ℕ → ℕ → Outcome Kept
unwound_clinit e c o =
    ends_event (failed e c o (told (Unwind (begins e).state.guest.clock e.thread (unwrap_or (current_frame e).method 0) o) (dropped e (begins e))))

abbrev pub by_handler : Moment → ℕ → Outcome Kept → Option TableRow → Outcome Kept
by_handler e o unwinds (Some row) = caught e o row.handler
by_handler e o unwinds None = unwinds

abbrev pub unwinds : Moment → ℕ → Stage → Outcome Kept
unwinds e o Plain = by_handler e o (unwound e o) (handler_of e.program (current_frame e) (object_class (begins e) o))
unwinds e o (Before c) = ends_event (failed e c o (dropped e (begins e)))
unwinds e o (Clinit c) = by_handler e o (unwound_clinit e c o) (handler_of e.program (current_frame e) (object_class (begins e) o))

abbrev pub unwinding_step : Moment → Option ℕ → Outcome Kept
unwinding_step e None = ill_typed e
unwinding_step e (Some o) = unwinds e o (current_frame e).stage
