-- A method is entered, with its monitor, and a frame returns.
use Rattle.std.proofs.Common.{◌≡◌, ℕ, ◌<◌, ◌≤◌, ◌^◌, true, List, [], ◌∷◌, length, Option, Some, None, refl, sym, ap, subst, arith, Contains}
use Rattle.std.specs.Prelude.{option_to_list}
use Rattle.std.specs.List.{slice_index_or}
use Rattle.et_state.proofs.Steps.{with_first}
use Rattle.et_base.specs.declared.value.Value.{Value}
use Rattle.et_code.specs.Bodies.{Body}
use Rattle.et_base.proofs.Lists.{Contains-here}
use Rattle.et_program.specs.Entries.{Linked, method_at}
use Rattle.et_heap.specs.Objects.{IsHeld}
use Rattle.et_state.specs.declared.stage.Stage.{Stage}
use Rattle.et_state.specs.declared.stage.Stage.TheVariants.{Plain, Before, Clinit}
use Rattle.et_state.specs.Threads.{FrameState, ThreadState, no_thread, rest_of, entered_by, most_frames}
use Rattle.et_state.specs.declared.class_state.ClassState.TheVariants.{Done}
use Rattle.et_state.specs.State.{Kept}
use Rattle.et_state.specs.Words.{thread_at, HasFrame}
use Rattle.et_state.proofs.Places.{top_root, lock_root}
use Rattle.et_event.specs.Calls.{class_done_by, frame_returned}
use Rattle.et_event.specs.Frames.{receiver_of, method_frame, frame_entered, frames_after_return}
use Rattle.et_event.specs.Operands.{returned_width}
use Rattle.et_event.specs.Moments.{Moment, Doing, current_frame, thread_of, begins, goes, fits_heap}
use Rattle.et_event.specs.Monitors.{Lock, OfObject, OfClass, entered, lock_for, lock_in, entered_some, left_some}
use Rattle.et_event.specs.Sites.{running_method}
use Rattle.et_event.specs.Sound.{returned_of, IsStaged, AreSoundFrames, IsSoundFor}
use Rattle.et_history.specs.soundness.Outcomes.{KeepsSound}
use Rattle.et_history.specs.soundness.WellFormed.{IsWellFormed, IsUnderWayAt, MayBeThread, MayEnter}
use Rattle.et_history.proofs.soundness.Frames.{returned_frames, length-resumed}
use Rattle.et_history.proofs.soundness.Initializing.{not_done}
use Rattle.et_history.proofs.soundness.Monitors.{entered_well, left_well, left_fits, class_well}
use Rattle.et_history.proofs.soundness.Outcomes.{begins_well, goes_sound}
use Rattle.et_history.proofs.soundness.Steps.{IsSomeThere, lock_there}
use Rattle.et_history.proofs.soundness.Threads.{with_thread_well, may_have_frames}

threads_entered : (e : Moment) (lock : Lock) (d : Doing) → (entered e lock d).state.guest.threads ≡ d.state.guest.threads
threads_entered e (OfObject o) d = refl
threads_entered e (OfClass c) d = refl

-- the monitor, if any, is entered
record HasEntered (e : Moment) (d x : Doing) : Type 0 where
  well : IsWellFormed e.program x.state
  threads : x.state.guest.threads ≡ d.state.guest.threads

some_entered : (e : Moment) (lock : Option Lock) (d : Doing) → IsUnderWayAt e d → MayEnter d lock → HasEntered e d (entered_some e lock d)
some_entered e None d g may = record { well = g.well; threads = refl }
some_entered e (Some lock) d g may = record { well = entered_well e.program e lock d g.well may.0 g.thread may.1; threads = threads_entered e lock d }

pub frame_entered_well : (e : Moment) (m : ℕ) (body : Body) (arguments : List Value) (d : Doing) → IsUnderWayAt e d → MayEnter d (lock_for (method_at e.program m) (receiver_of e.program m arguments)) → length (thread_at d.state.guest e.thread).frames < most_frames
    → AreSoundFrames e.program (method_frame e.program m body arguments ∷ (thread_at d.state.guest e.thread).frames) → IsWellFormed e.program (frame_entered e m body arguments d).state
frame_entered_well e m body arguments d g may few frames =
    let p : Linked = e.program in
    let lock : Option Lock = lock_for (method_at p m) (receiver_of p m arguments) in
    let x : Doing = entered_some e lock d in
    let on : HasEntered e d x = some_entered e lock d g may in
    let f : FrameState = method_frame p m body arguments in
    let same : thread_at x.state.guest e.thread ≡ thread_at d.state.guest e.thread = ap (λ (ts : List ThreadState). slice_index_or ts e.thread no_thread) on.threads in
    let t : ThreadState = thread_at x.state.guest e.thread in
    let thread : e.thread < length x.state.guest.threads = subst (λ (ts : List ThreadState). e.thread < length ts) (sym on.threads) g.thread in
    let there : AreSoundFrames p (f ∷ t.frames) = subst (λ (z : ThreadState). AreSoundFrames p (f ∷ z.frames)) (sym same) frames in
    let n : length t.frames < most_frames = subst (λ (z : ThreadState). length z.frames < most_frames) (sym same) few in
    with_thread_well p x.state e.thread (entered_by f t) on.well thread (may_have_frames p x.state e.thread (f ∷ t.frames) on.well thread there (omega arith))

-- A FRAME RETURNS

record HasLeft (e : Moment) (x : Doing) : Type 0 where
  well : IsWellFormed e.program x.state
  threads : x.state.guest.threads ≡ e.before.guest.threads
  fitting : fits_heap x.state.heap ≡ true

some_left : (e : Moment) (lock : Option Lock) → IsSoundFor e.program e.before → IsWellFormed e.program (begins e).state → IsSomeThere e.before lock → HasLeft e (left_some lock (begins e))
some_left e None sound h there = record { well = h; threads = refl; fitting = sound.fits }
some_left e (Some (OfObject o)) sound h there = record { well = left_well e.program (OfObject o) (begins e) h there; threads = refl; fitting = left_fits (OfObject o) (begins e) there sound.fits }
some_left e (Some (OfClass c)) sound h there = record { well = left_well e.program (OfClass c) (begins e) h tt; threads = refl; fitting = sound.fits }

class_is_done : (e : Moment) (f : FrameState) (stage : Stage) (d : Doing) → IsStaged e.program f stage f.method → HasLeft e d → HasLeft e (class_done_by stage d)
class_is_done e f Plain d staged h = h
class_is_done e f (Before c) d staged h = h
class_is_done e f (Clinit c) d staged h = record { well = class_well e.program c Done d h.well (class_of f.method staged) tt not_done; threads = h.threads; fitting = h.fitting }
  where
    class_of : (method : Option ℕ) → IsStaged e.program f (Clinit c) method → c < length e.program.classes
    class_of None s = absurd s
    class_of (Some m) s = s.0

lock_of_frame : (s : Kept) (f : FrameState) (stage : Stage) (p : Linked) → ((o : ℕ) → f.lock ≡ Some o → IsHeld s.heap o) → IsSomeThere s (lock_in stage (running_method p f) f.lock)
lock_of_frame s f Plain p held = lock_there s (running_method p f) f.lock held
lock_of_frame s f (Before c) p held = tt
lock_of_frame s f (Clinit c) p held = tt

pub returned_sound : (e : Moment) (values : List Value) → IsSoundFor e.program e.before → e.before.guest.clock < 2 ^ 40 → HasFrame e.before.guest e.thread → ((current_frame e).stage ≡ Plain → length values ≤ returned_width (returned_of (running_method e.program (current_frame e))))
    → KeepsSound e.program (goes (frame_returned e values (begins e)))
returned_sound e values sound clock has few =
    let p : Linked = e.program in
    let f : FrameState = current_frame e in
    let t : ThreadState = thread_of e in
    let below : List FrameState = rest_of t.frames in
    let h : IsWellFormed p (begins e).state = begins_well p e sound clock in
    let held : (o : ℕ) → f.lock ≡ Some o → IsHeld e.before.heap o = λ o is. sound.held.roots o (top_root e.before.guest e.thread o has (lock_root f o (subst (λ (l : Option ℕ). Contains (option_to_list l) o) (sym is) (Contains-here o [])))) in
    let was = sound.threads e.thread has.thread in
    let first : f ∷ below ≡ t.frames = with_first t.frames has.frame in
    let frames : AreSoundFrames p (f ∷ below) = subst (λ (fs : List FrameState). AreSoundFrames p fs) (sym first) was.frames in
    let few_frames : length (f ∷ below) ≤ most_frames = subst (λ (fs : List FrameState). length fs ≤ most_frames) (sym first) was.few_frames in
    let d : Doing = left_some (lock_in f.stage (running_method p f) f.lock) (begins e) in
    let left_it : HasLeft e d = some_left e (lock_in f.stage (running_method p f) f.lock) sound h (lock_of_frame e.before f f.stage p held) in
    let x : Doing = class_done_by f.stage d in
    let on : HasLeft e x = class_is_done e f f.stage d frames.0 left_it in
    let thread : e.thread < length x.state.guest.threads = subst (λ (ts : List ThreadState). e.thread < length ts) (sym on.threads) has.thread in
    let same : thread_at x.state.guest e.thread ≡ t = ap (λ (ts : List ThreadState). slice_index_or ts e.thread no_thread) on.threads in
    let rest : List FrameState = frames_after_return p f.stage values below in
    let after : AreSoundFrames p rest = returned_frames p f values below frames few in
    let n : length rest ≡ length below = length-resumed p f.stage values below in
    let may : MayBeThread p x.state e.thread (record (thread_at x.state.guest e.thread) { frames = rest }) = may_have_frames p x.state e.thread rest on.well thread after (omega arith) in
    let now : MayBeThread p x.state e.thread (record t { frames = rest }) = subst (λ (z : ThreadState). MayBeThread p x.state e.thread (record z { frames = rest })) same may in
    goes_sound p (frame_returned e values (begins e)) on.fitting (with_thread_well p x.state e.thread (record t { frames = rest }) on.well thread now)
