-- A method with code is entered by an event that stands at its call.
use Rattle.std.proofs.Common.{◌≡◌, ℕ, ◌+◌, ◌<◌, ◌≤◌, ◌^◌, List, [], ◌∷◌, length, set, Option, Some, None, Ok, refl, sym, ◌∙◌, ap, subst, arith, get_or-set_same}
use Rattle.std.specs.Prelude.{slice_index_or}
use Rattle.std.proofs.lemmas.List.{length-set}
use Rattle.et_state.proofs.Steps.{with_first}
use Rattle.et_base.specs.declared.value.Value.{Value}
use Rattle.et_code.specs.declared.instr.Instr.{Instr}
use Rattle.et_code.specs.Bodies.{Body}
use Rattle.et_code.specs.Decoding.{instruction_at}
use Rattle.et_heap.specs.Objects.{IsHeld, object_at, free_monitor}
use Rattle.et_heap.specs.declared.monitor.Monitor.{Monitor}
use Rattle.et_program.specs.Entries.{Linked, method_at}
use Rattle.et_state.specs.Threads.{FrameState, ThreadState, no_thread, popped, rest_of, top_of, with_top_of, most_frames}
use Rattle.et_state.specs.Words.{thread_at, HasFrame}
use Rattle.et_event.specs.Calls.{taking}
use Rattle.et_event.specs.Frames.{receiver_of, method_frame, frame_entered, enters_code}
use Rattle.et_event.specs.Moments.{Moment, Doing, current_frame, thread_of, begins, with_frame, ends_event}
use Rattle.et_event.specs.Monitors.{Lock, OfObject, OfClass, monitor_of, lock_for, may_enter_some}
use Rattle.et_event.specs.Sites.{Site, running_method, decoded_at}
use Rattle.et_event.specs.Sound.{AreSoundFrames, IsSoundFor}
use Rattle.et_event.specs.Places.{Runs}
use Rattle.et_event.proofs.Placing.{method_runs, body_runs}
use Rattle.et_history.specs.soundness.Outcomes.{KeepsSound}
use Rattle.et_event.specs.Programs.{MakesSound, IsInstruction}
use Rattle.et_history.specs.soundness.WellFormed.{IsWellFormed, IsUnderWayAt, KeepsFrame, MayEnter, StandsAt}
use Rattle.et_history.proofs.soundness.Calls.{frame_entered_well}
use Rattle.et_event.proofs.Running.{starts_there}
use Rattle.et_history.proofs.soundness.Frames.{RunsSome, runs_some, frames_still, popped_keeps, top_well}
use Rattle.et_history.proofs.soundness.Monitors.{monitor_count}
use Rattle.et_history.proofs.soundness.Outcomes.{ends_sound, unless_waiting, where_frame_fits}
use Rattle.et_history.proofs.soundness.Wholes.{well_formed}

-- THE MONITOR: the event has come to a state with the monitors of classes as before it, one event later

pub record IsOnTime (e : Moment) (d : Doing) : Type 0 where
  pub clock : d.state.guest.clock ≡ e.before.guest.clock + 1
  pub monitors : d.state.guest.class_monitors ≡ e.before.guest.class_monitors

pub begins_on_time : (e : Moment) → IsOnTime e (begins e)
begins_on_time e = record { clock = refl; monitors = refl }

class_count : (e : Moment) (d : Doing) (c : ℕ) → IsSoundFor e.program e.before → IsOnTime e d → (monitor_of d (OfClass c)).count < d.state.guest.clock
class_count e d c sound on =
    let before : Doing = record { state = e.before; records = [] } in
    let few : (monitor_of before (OfClass c)).count ≤ e.before.guest.clock = monitor_count e.program before (OfClass c) (well_formed e.program e.before sound) tt in
    let same : monitor_of d (OfClass c) ≡ monitor_of before (OfClass c) = ap (λ (ms : List Monitor). slice_index_or ms c free_monitor) on.monitors in
    let n : (monitor_of d (OfClass c)).count ≡ (monitor_of before (OfClass c)).count = ap (λ (m : Monitor). m.count) same in
    omega (arith, on.clock)

pub object_count : (e : Moment) (o : ℕ) → IsSoundFor e.program e.before → IsHeld e.before.heap o → (object_at e.before.heap o).monitor.count < e.before.guest.clock + 1
object_count e o sound held =
    let before : Doing = record { state = e.before; records = [] } in
    let few : (object_at e.before.heap o).monitor.count ≤ e.before.guest.clock = monitor_count e.program before (OfObject o) (well_formed e.program e.before sound) held in
    omega arith

pub may_enter : (e : Moment) (d : Doing) (lock : Option Lock) → IsSoundFor e.program e.before → IsOnTime e d → ((o : ℕ) → lock ≡ Some (OfObject o) → IsHeld d.state.heap o × ((object_at d.state.heap o).monitor.count < d.state.guest.clock)) → MayEnter d lock
may_enter e d None sound on h = tt
may_enter e d (Some (OfObject o)) sound on h = h o refl
may_enter e d (Some (OfClass c)) sound on h = (tt, class_count e d c sound on)

-- THE CALLER, from which the arguments are taken

pub thread_now : (e : Moment) (x : ThreadState) (ts : List ThreadState) → e.thread < length ts → slice_index_or (set ts e.thread x) e.thread no_thread ≡ x
thread_now e x ts lt = get_or-set_same ts e.thread x no_thread lt

-- the topmost frame became another one, where the threads are those before the event
pub framed_going : (e : Moment) (at : Site) (f : FrameState) (d : Doing) → StandsAt e at → KeepsFrame e.program (current_frame e) f → IsWellFormed e.program d.state → d.state.guest.threads ≡ e.before.guest.threads → IsUnderWayAt e (with_frame e f d)
framed_going e at f d here keeps h same =
    let has : HasFrame d.state.guest e.thread = record {
      thread = subst (λ (ts : List ThreadState). e.thread < length ts) (sym same) here.frame.thread;
      frame = subst (λ (ts : List ThreadState). 0 < length (slice_index_or ts e.thread no_thread).frames) (sym same) here.frame.frame;
    } in
    let now : KeepsFrame e.program (top_of (slice_index_or d.state.guest.threads e.thread no_thread)) f = subst (λ (ts : List ThreadState). KeepsFrame e.program (top_of (slice_index_or ts e.thread no_thread)) f) (sym same) keeps in
    let n : length (with_frame e f d).state.guest.threads ≡ length d.state.guest.threads = length-set d.state.guest.threads e.thread (with_top_of (thread_at d.state.guest e.thread) f) in
    record { well = top_well e.program d.state e.thread f h has now; thread = subst (λ (k : ℕ). e.thread < k) (sym n) has.thread }

pub runs_here : (e : Moment) (at : Site) → StandsAt e at → RunsSome e.program (current_frame e)
runs_here e at here =
    let was = here.sound.threads e.thread here.frame.thread in
    let first : current_frame e ∷ rest_of (thread_of e).frames ≡ (thread_of e).frames = with_first (thread_of e).frames here.frame.frame in
    runs_some e.program (current_frame e) (rest_of (thread_of e).frames) here.runs (subst (λ (fs : List FrameState). AreSoundFrames e.program fs) (sym first) was.frames)

-- THE INSTRUCTION

pub runs_method : (p : Linked) (f : FrameState) → RunsSome p f → Runs p f
runs_method p f r = record { method = r.method; named = r.named; runs = r.runs }

-- the instruction of the code of its method at which a thread stands
pub record StandsIn (e : Moment) (x : Instr × ℕ) : Type 0 where
  pub method : ℕ
  pub named : running_method e.program (current_frame e) ≡ method_at e.program method
  pub is : IsInstruction e.program method x

pub stands_in : (e : Moment) (x : Instr × ℕ) → RunsSome e.program (current_frame e) → decoded_at e.program (current_frame e) ≡ Ok x → StandsIn e x
stands_in e x some decoded =
    let p : Linked = e.program in
    let f : FrameState = current_frame e in
    let r : Runs p f = runs_method p f some in
    let there : instruction_at r.runs.body.code f.pc ≡ Ok x = subst (λ (b : Body). instruction_at b.code f.pc ≡ Ok x) (body_runs p f r) decoded in
    record {
      method = r.method;
      named = method_runs p f r;
      is = record { method = r.runs.method; body = r.runs.body; code = r.runs.code; pc = f.pc; start = starts_there r.runs.body f.pc x r.runs.pc there; at = there };
    }

-- THE ARGUMENTS are taken

pub taking_keeps : (e : Moment) (at : Site) (n : ℕ) → StandsAt e at → KeepsFrame e.program (current_frame e) (popped n (current_frame e))
taking_keeps e at n here = popped_keeps e.program (current_frame e) n here.runs (runs_here e at here)

pub taking_going : (e : Moment) (at : Site) (n : ℕ) (d : Doing) → StandsAt e at → IsWellFormed e.program d.state → d.state.guest.threads ≡ e.before.guest.threads → IsUnderWayAt e (taking e n d)
taking_going e at n d here h same = framed_going e at (popped n (current_frame e)) d here (taking_keeps e at n here) h same

-- the frames then
pub taken_frames : (e : Moment) (n : ℕ) (d : Doing) → e.thread < length e.before.guest.threads → d.state.guest.threads ≡ e.before.guest.threads
    → (thread_at (taking e n d).state.guest e.thread).frames ≡ popped n (current_frame e) ∷ rest_of (thread_of e).frames
taken_frames e n d lt same =
    let inside : e.thread < length d.state.guest.threads = subst (λ (ts : List ThreadState). e.thread < length ts) (sym same) lt in
    ap (λ (x : ThreadState). x.frames) (thread_now e (with_top_of (thread_at d.state.guest e.thread) (popped n (current_frame e))) d.state.guest.threads inside)
    ∙ ap (λ (ts : List ThreadState). popped n (current_frame e) ∷ rest_of (slice_index_or ts e.thread no_thread).frames) same

pub caller_frames : (e : Moment) (at : Site) (n : ℕ) → StandsAt e at → AreSoundFrames e.program (popped n (current_frame e) ∷ rest_of (thread_of e).frames)
caller_frames e at n here =
    let was = here.sound.threads e.thread here.frame.thread in
    let first : current_frame e ∷ rest_of (thread_of e).frames ≡ (thread_of e).frames = with_first (thread_of e).frames here.frame.frame in
    frames_still e.program (current_frame e) (popped n (current_frame e)) (rest_of (thread_of e).frames) (taking_keeps e at n here) (subst (λ (fs : List FrameState). AreSoundFrames e.program fs) (sym first) was.frames)

-- THE METHOD IS ENTERED, after what `leave` does

pub record MayBeEntered (e : Moment) (m : ℕ) (body : Body) (arguments : List Value) (d x : Doing) : Type 0 where
  pub going : IsUnderWayAt e d
  pub left : IsUnderWayAt e x
  pub lock : MayEnter x (lock_for (method_at e.program m) (receiver_of e.program m arguments))
  pub count : length (thread_at x.state.guest e.thread).frames ≡ length (thread_at d.state.guest e.thread).frames
  pub frames : AreSoundFrames e.program (method_frame e.program m body arguments ∷ (thread_at x.state.guest e.thread).frames)

pub code_sound : (e : Moment) (d : Doing) (leave : Doing → Doing) (m : ℕ) (arguments : List Value) (body : Body) → IsSoundFor e.program e.before → e.before.guest.clock < 2 ^ 40 → MakesSound e.program
    → MayBeEntered e m body arguments d (leave d) → KeepsSound e.program (enters_code e d leave m arguments body)
code_sound e d leave m arguments body sound clock makes may =
    unless_waiting e.program e (may_enter_some e d (lock_for (method_at e.program m) (receiver_of e.program m arguments))) _ sound clock (λ free.
    where_frame_fits e d (ends_event (frame_entered e m body arguments (leave d))) makes may.going (λ few.
    let less : length (thread_at (leave d).state.guest e.thread).frames < most_frames = subst (λ (n : ℕ). n < most_frames) (sym may.count) few in
    ends_sound e.program (frame_entered e m body arguments (leave d)) (frame_entered_well e m body arguments (leave d) may.left may.lock less may.frames)))
