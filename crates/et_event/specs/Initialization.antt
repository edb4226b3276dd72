-- THE INITIALIZATION OF CLASSES (JVMS 5.5, 4.7.2, 2.9). A class is untouched, begun by a thread, done, or has failed.
use Rattle.std.specs.Prelude.{ℕ, ◌==◌, not, Bool, true, false, if◌then◌else◌, List, [], Option, Some, None, is_none, fold, find, take_while}
use Rattle.std.specs.List.{list_all}
use Rattle.et_base.specs.declared.value.Value.TheVariants.{Int, Long, Ref}
use Rattle.et_state.specs.declared.class_state.ClassState.{ClassState}
use Rattle.et_state.specs.declared.class_state.ClassState.TheVariants.{Untouched, Begun, Done, Failed}
use Rattle.et_state.specs.declared.stage.Stage.TheVariants.{Before}
use Rattle.et_state.specs.Threads.{FrameState, in_clinit, entered_by, without_top}
use Rattle.et_state.specs.State.{Kept}
use Rattle.et_state.specs.Words.{thread_at, class_state_at, with_class_state}
use Rattle.et_program.specs.Entries.{Linked, class_at, method_at, field_at}
use Rattle.et_program.specs.declared.info.FieldInfo.{FieldInfo}
use Rattle.et_state.specs.declared.records.Record.TheVariants.{Enter}
use Rattle.et_state.specs.Outcome.{Outcome}
use Rattle.et_event.specs.declared.errors.GuestError.TheVariants.{NoClassDefFoundError}
use Rattle.et_event.specs.Moments.{Moment, Doing, current_frame, begins, told, doing_with_guest, with_thread_state, with_frame, static_written, waits, ends_event, throws}
use Rattle.et_event.specs.Checks.{frame_fits}
use Rattle.et_event.specs.Sites.{LoadedConstant, AnInt, ALong, AString, constant_at, pool_of_class, present_body}
use Rattle.et_event.specs.Strings.{interned, string_object}
use Rattle.et_event.specs.Kinds.{narrowed}

abbrev pub state_of : Doing → ℕ → ClassState
state_of d c = class_state_at d.state.guest c

abbrev pub with_state : ℕ → ClassState → Doing → Doing
with_state c x d = doing_with_guest (with_class_state d.state.guest c x) d

-- CONSTANTS: a static field gets its ConstantValue as if it were written, a string as its interned object
abbrev pub constant_set : Moment → FieldInfo → Option LoadedConstant → Doing → Doing
constant_set e f None d = d
constant_set e f (Some (AnInt n)) d = static_written e f.slot (narrowed f.descriptor (Int n)) d
constant_set e f (Some (ALong n)) d = static_written e f.slot (Long n) d
constant_set e f (Some (AString bytes)) d = let x = interned e bytes d in static_written e f.slot (Ref (string_object bytes x)) x

abbrev pub field_set : Moment → Doing → ℕ → Doing
field_set e d f =
    let field = field_at e.program f in
    constant_set e field (constant_at (pool_of_class e.program field.class) field.constant) d

-- the constants of a class are set, in the order of the file
abbrev pub constants_set : Moment → ℕ → Doing → Doing
constants_set e c d = fold (field_set e) d (class_at e.program c).info.constants

-- QUIET CLASSES: neither such a class nor what is initialized with it has a <clinit> to run

abbrev pub is_quiet_state : Linked → ℕ → ClassState → Bool
is_quiet_state p c Untouched = is_none (class_at p c).info.clinit
is_quiet_state p c (Begun t) = false
is_quiet_state p c Done = true
is_quiet_state p c Failed = false

abbrev pub is_quiet : Moment → Doing → ℕ → Bool
is_quiet e d c = list_all (λ k. is_quiet_state e.program k (state_of d k)) (class_at e.program c).init_order

-- each untouched class of the order becomes done
abbrev pub class_done : Moment → ℕ → ClassState → Doing → Doing
class_done e c Untouched d = constants_set e c (with_state c Done d)
class_done e c other d = d

abbrev pub quietly_done : Moment → ℕ → Doing → Doing
quietly_done e c d = fold (λ x k. class_done e k (state_of x k) x) d (class_at e.program c).init_order

-- AN INITIALIZER BEGINS: the event does only this
abbrev pub initializer_frame : ℕ → FrameState
initializer_frame c = record { method = None; stage = Before c; lock = None; pc = 0; room = 0; locals = []; operands = [] }

abbrev pub begun_by : Moment → ℕ → Doing → Doing
begun_by e c d =
    let x = constants_set e c (with_state c (Begun e.thread) d) in
    with_thread_state e (entered_by (initializer_frame c) (thread_at x.state.guest e.thread)) x

abbrev pub begins_class : Moment → ℕ → Doing → Outcome Kept
begins_class e c d = frame_fits e d (ends_event (begun_by e c d))

-- 5. A CLASS IS NEEDED: the event goes on where it is done, begun by this thread, or quiet
abbrev pub needed : Moment → Doing → ℕ → ClassState → (Doing → Outcome Kept) → Outcome Kept
needed e d c Done go = go d
needed e d c (Begun t) go = if t == e.thread then go d else waits e
needed e d c Failed go = throws e NoClassDefFoundError d
needed e d c Untouched go = if is_quiet e d c then go (quietly_done e c d) else begins_class e c d

abbrev pub initialized : Moment → Doing → ℕ → (Doing → Outcome Kept) → Outcome Kept
initialized e d c go = needed e d c (state_of d c) go

-- A STEP OF AN INITIALIZER. The first prerequisite that isn't done, nor begun by this thread, nor quiet, is needed; the
-- quiet ones before it become done. Where there is none, <clinit> is entered, or without one the class is done.

abbrev pub is_ready_state : Moment → Doing → ℕ → ClassState → Bool
is_ready_state e d c Untouched = is_quiet e d c
is_ready_state e d c (Begun t) = t == e.thread
is_ready_state e d c Done = true
is_ready_state e d c Failed = false

abbrev pub is_ready : Moment → Doing → ℕ → Bool
is_ready e d c = is_ready_state e d c (state_of d c)

abbrev pub quietly_if_untouched : Moment → ℕ → ClassState → Doing → Doing
quietly_if_untouched e c Untouched d = quietly_done e c d
quietly_if_untouched e c other d = d

abbrev pub prepared : Moment → List ℕ → Doing → Doing
prepared e classes d = fold (λ x k. quietly_if_untouched e k (state_of x k) x) d classes

abbrev pub enters_clinit : Moment → ℕ → Option ℕ → Doing → Outcome Kept
enters_clinit e c None d = ends_event (with_thread_state e (without_top (thread_at d.state.guest e.thread)) (with_state c Done d))
enters_clinit e c (Some m) d =
    let body = present_body (method_at e.program m).code in
    ends_event (told (Enter d.state.guest.clock e.thread m 0) (with_frame e (in_clinit m body.max_stack body.max_locals (current_frame e)) d))

abbrev pub step_by : Moment → ℕ → Doing → Option ℕ → Outcome Kept
step_by e c d (Some blocker) = initialized e d blocker ends_event
step_by e c d None = enters_clinit e c (class_at e.program c).info.clinit d

abbrev pub initialization_step : Moment → ℕ → Outcome Kept
initialization_step e c =
    let classes = (class_at e.program c).info.prerequisites in
    step_by e c (prepared e (take_while (is_ready e (begins e)) classes) (begins e)) (find (λ k. not (is_ready e (begins e) k)) classes)
