-- The frames of the thread of an event, as far as the event has come.
use Rattle.std.proofs.Common.{◌≡◌, ℕ, ◌<◌, Bool, true, false, List, [], ◌∷◌, length, Option, Some, None, refl, sym, ap, subst, arith}
use Rattle.std.specs.Prelude.{if◌then◌else◌, slice_index_or}
use Rattle.std.proofs.lemmas.List.{length-set}
use Rattle.et_base.specs.declared.value.Value.{Value}
use Rattle.et_event.specs.Errors.{error_class}
use Rattle.et_event.specs.Moments.{Doing, Moment, doing_with_guest, ends_event, entry_given_up, fits_heap, instance_made, next_object, pending_now, slot_written, static_written, thread_of, throws, with_thread_state}
use Rattle.et_event.specs.declared.errors.GuestError.{GuestError}
use Rattle.et_program.specs.Entries.{Linked}
use Rattle.et_history.proofs.soundness.Entering.{thread_now}
use Rattle.et_event.proofs.Values.{updated_state}
use Rattle.et_state.specs.Outcome.{Outcome}
use Rattle.et_state.specs.Outcome as outcome
use Rattle.et_state.specs.State.{Kept}
use Rattle.et_state.specs.Threads.{FrameState, ThreadState, as_entered, first_frame, has_frame, no_thread, rest_of, with_pending}
use Rattle.et_heap.specs.Objects.{ObjectState, object_at, slot_of, with_object_at, with_slot}
use Rattle.et_state.specs.Words.{static_at, thread_at, with_static}
use Rattle.et_flow.specs.Flows.{Typing}
use Rattle.et_theorems.specs.typings.Refused.{IsRefused}
use Rattle.et_theorems.specs.typings.Typed.{AreTypedFrames, HoldsLocals, HoldsPart, IsTypedFrame, IsTypedThread, LocalsAlone, Part, Typings, UnderCall, Whole, part_below}

-- WHERE SOMETHING IS THROWN, less counts of the topmost frame

weak_part : (p : Linked) (typing : Typing) (f : FrameState) (part : Part) → HoldsPart p typing f part → HoldsLocals typing f
weak_part p typing f Whole h = record { types = h.types; at_pc = h.at_pc; locals = h.locals }
weak_part p typing f LocalsAlone h = h
weak_part p typing f UnderCall h = record { types = h.types; at_pc = h.at_pc; locals = h.locals }

weak_frame : (p : Linked) (typings : Typings) (f : FrameState) (method : Option ℕ) (part : Part) → IsTypedFrame p typings f method part → IsTypedFrame p typings f method LocalsAlone
weak_frame p typings f None part h = tt
weak_frame p typings f (Some m) part h = weak_part p (typings m) f part h

pub weak_frames : (p : Linked) (typings : Typings) (part : Part) (fs : List FrameState) → AreTypedFrames p typings part fs → AreTypedFrames p typings LocalsAlone fs
weak_frames p typings part [] h = tt
weak_frames p typings part (f ∷ below) h = (weak_frame p typings f f.method part h.0, h.1)

-- the topmost frame, and those below it
pub first_typed : (p : Linked) (typings : Typings) (part : Part) (fs : List FrameState) → 0 < length fs → AreTypedFrames p typings part fs
    → IsTypedFrame p typings (first_frame fs) (first_frame fs).method part × AreTypedFrames p typings (part_below (first_frame fs).stage) (rest_of fs)
first_typed p typings part [] lt h = absurd (omega (arith, lt))
first_typed p typings part (f ∷ below) lt h = h

-- THE THREAD

abbrev pub Own : Moment → Typings → Doing → Type 0
Own e typings d = IsTypedThread e.program typings (thread_at d.state.guest e.thread)

-- the threads are those before the event
abbrev pub AsBefore : Moment → Doing → Type 0
AsBefore e d = d.state.guest.threads ≡ e.before.guest.threads

-- AN OUTCOME: the thread is typed, or what refuses is check 7
abbrev pub LeavesTyped : Moment → Typings → Outcome Kept → Type 0
LeavesTyped e typings (outcome.Goes next records) = IsTypedThread e.program typings (thread_at next.guest e.thread)
LeavesTyped e typings (outcome.Waits next) = Unit {0}
LeavesTyped e typings (outcome.IllTyped method pc) = IsRefused e
LeavesTyped e typings outcome.ObjectLimit = Unit {0}

pub same_thread : (e : Moment) (d : Doing) → AsBefore e d → thread_at d.state.guest e.thread ≡ thread_of e
same_thread e d same = ap (λ (ts : List ThreadState). slice_index_or ts e.thread no_thread) same

pub started_still : (e : Moment) (d : Doing) → e.thread < length e.before.guest.threads → AsBefore e d → e.thread < length d.state.guest.threads
started_still e d lt same = subst (λ (ts : List ThreadState). e.thread < length ts) (sym same) lt

-- a state with the same threads
pub own_by : (e : Moment) (typings : Typings) (d x : Doing) → x.state.guest.threads ≡ d.state.guest.threads → Own e typings d → Own e typings x
own_by e typings d x same h = subst (λ (ts : List ThreadState). IsTypedThread e.program typings (slice_index_or ts e.thread no_thread)) (sym same) h

pub thread_own : (e : Moment) (typings : Typings) (x : ThreadState) (d : Doing) → e.thread < length d.state.guest.threads → IsTypedThread e.program typings x → Own e typings (with_thread_state e x d)
thread_own e typings x d lt h = subst (λ (y : ThreadState). IsTypedThread e.program typings y) (sym (thread_now e x d.state.guest.threads lt)) h

pub ends_leave : (e : Moment) (typings : Typings) (d : Doing) → Own e typings d → LeavesTyped e typings (ends_event d)
ends_leave e typings d h = by (fits_heap d.state.heap)
  where
    by : (b : Bool) → LeavesTyped e typings (if b then outcome.Goes d.state d.records else outcome.ObjectLimit)
    by true = h
    by false = tt

-- WHAT IS THROWN

-- the thread counts as entered, or nothing changed
given_up_length : (e : Moment) (d : Doing) → length (entry_given_up e d).state.guest.threads ≡ length d.state.guest.threads
given_up_length e d = by (has_frame (thread_at d.state.guest e.thread).frames)
  where
    by : (b : Bool) → length (if b then d else with_thread_state e (as_entered (thread_at d.state.guest e.thread)) d).state.guest.threads ≡ length d.state.guest.threads
    by true = refl
    by false = length-set d.state.guest.threads e.thread (as_entered (thread_at d.state.guest e.thread))

given_up_frames : (e : Moment) (d : Doing) → e.thread < length d.state.guest.threads → (thread_at (entry_given_up e d).state.guest e.thread).frames ≡ (thread_at d.state.guest e.thread).frames
given_up_frames e d lt = by (has_frame (thread_at d.state.guest e.thread).frames)
  where
    by : (b : Bool) → (thread_at (if b then d else with_thread_state e (as_entered (thread_at d.state.guest e.thread)) d).state.guest e.thread).frames ≡ (thread_at d.state.guest e.thread).frames
    by true = refl
    by false = ap (λ (x : ThreadState). x.frames) (thread_now e (as_entered (thread_at d.state.guest e.thread)) d.state.guest.threads lt)

pub pending_own : (e : Moment) (typings : Typings) (o : ℕ) (d : Doing) → e.thread < length d.state.guest.threads → AreTypedFrames e.program typings LocalsAlone (thread_at d.state.guest e.thread).frames → Own e typings (pending_now e o d)
pending_own e typings o d lt h = thread_own e typings (with_pending (Some o) (thread_at d.state.guest e.thread)) d lt h

-- something is thrown, where the frames are typed by their locals
pub throws_typed : (e : Moment) (typings : Typings) (error : GuestError) (d : Doing) → e.thread < length d.state.guest.threads → AreTypedFrames e.program typings LocalsAlone (thread_at d.state.guest e.thread).frames → LeavesTyped e typings (throws e error d)
throws_typed e typings error d lt h =
    let x : Doing = instance_made e (error_class e.program error) (entry_given_up e d) in
    ends_leave e typings (pending_now e (next_object d) x)
    (pending_own e typings (next_object d) x (subst (λ (n : ℕ). e.thread < n) (sym (given_up_length e d)) lt)
    (subst (λ (fs : List FrameState). AreTypedFrames e.program typings LocalsAlone fs) (sym (given_up_frames e d lt)) h))

-- WRITES change no thread

pub slot_threads : (e : Moment) (o i : ℕ) (v : Value) (d : Doing) → (slot_written e o i v d).state.guest.threads ≡ d.state.guest.threads
slot_threads e o i v d =
    let x : ObjectState = object_at d.state.heap o in
    let next : Doing = record { state = record { heap = with_object_at d.state.heap o (with_slot i v x); guest = d.state.guest }; records = d.records } in
    let same : (slot_written e o i v d).state ≡ next.state = updated_state e o i (slot_of x i) v next in
    ap (λ (s : Kept). s.guest.threads) same

pub static_threads : (e : Moment) (i : ℕ) (v : Value) (d : Doing) → (static_written e i v d).state.guest.threads ≡ d.state.guest.threads
static_threads e i v d =
    let next : Doing = doing_with_guest (with_static d.state.guest i v) d in
    let same : (static_written e i v d).state ≡ next.state = updated_state e 0 i (static_at d.state.guest i) v next in
    ap (λ (s : Kept). s.guest.threads) same
