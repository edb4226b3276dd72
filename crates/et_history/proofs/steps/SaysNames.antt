-- What an event names: its steps tell nothing but what is of the program.
use Rattle.et_class.specs.Names.{has}
use Rattle.et_event.specs.Calls.{class_done_by}
use Rattle.et_event.specs.Event.{event}
use Rattle.et_event.specs.Frames.{frames_after_return, method_frame, receiver_of}
use Rattle.et_event.specs.Initialization.{initializer_frame}
use Rattle.et_event.specs.Moments.{Doing, Moment, begins, current_frame, thread_of, with_frame, with_thread_state}
use Rattle.et_event.specs.Monitors.{Lock, OfObject, entered_some, left_some, lock_for}
use Rattle.et_event.specs.Runnable.{IsRunnable}
use Rattle.et_event.specs.Sound.{IsSoundFor}
use Rattle.et_event.specs.Throw.{dropped, handled, left_if_owned}
use Rattle.et_heap.specs.Objects.{at}
use Rattle.et_program.specs.Entries.{Linked, method_at}
use Rattle.et_history.proofs.soundness.Wholes.{sound}
use Rattle.et_state.specs.Outcome.{Outcome}
use Rattle.et_state.specs.State.{Kept}
use Rattle.et_state.specs.Threads.{FrameState, ThreadState, as_ended, as_entered, entered_by, in_clinit, new_thread, rest_of, with_pending, with_top_of}
use Rattle.et_state.specs.Words.{IsUnended, thread_at, with_new_thread}
use Rattle.et_state.specs.declared.records.Record.TheVariants.{Enter}
use Rattle.et_state.specs.declared.stage.Stage.{Stage}
use Rattle.et_history.proofs.steps.Folding.{MadeOf, comes_so}
use Rattle.et_history.proofs.steps.Held.{Ready}
use Rattle.et_history.proofs.steps.NamedWords.{Tells, array_told, begun, done_told, dropped_told, enter_named, entered_some_told, entered_told, exit_named, first_taken_told, frame_told, guest_told, instance_told, interned_told, left_some_told, left_told, owned_told, pending_told, queue_told, record_told, referent_told, slot_told, state_told, static_told, thread_told, unwind_named}
use Rattle.et_history.proofs.steps.Turns.{event_leads}
use Rattle.et_history.specs.steps.Steps.{AllObjects, Begins, BeginsClass, Catches, ClassBecomes, Comes, CountsEntered, Drops, Ends, EntersClinit, EntersCode, EntersMonitor, GoesOn, Interns, Leads, LeavesMonitor, Level, MakesArray, MakesInstance, Pends, Phase, Polls, Returns, SetsQueue, SetsReferent, Starts, Unwinds, UnwindsClinit, WritesSlot, WritesStatic, own_lock}
use Rattle.et_history.specs.steps.Telling.{IsToldOf}
use Rattle.std.proofs.Common.{None, Option, Some, ap, refl, ℕ}
use Rattle.std.specs.Prelude.{unwrap_or}
use Rattle.et_state.specs.Outcome as outcome

module _ (e : Moment) (ready : Ready e) where
  names_come : (ph : Phase) (d : Doing) → Comes e AllObjects ph d → Tells e d
  names_come ph d Begins = begun e
  names_come ph d (GoesOn f x h framed a) = frame_told e f x (names_come Level x h)
  names_come ph d (EntersCode m body arguments x h is f has may) =
      let lock : Option Lock = lock_for (method_at e.program m) (receiver_of e.program m arguments) in
      let y : Doing = entered_some e lock x in
      let z : Doing = with_thread_state e (entered_by (method_frame e.program m body arguments) (thread_at y.state.guest e.thread)) y in
      record_told e _ z (enter_named e.program _ _ m _ is) (thread_told e (entered_by (method_frame e.program m body arguments) (thread_at y.state.guest e.thread)) y (entered_some_told e lock x (names_come Level x h)))
  names_come ph d (EntersClinit m body x h framed is fine) =
      let f : FrameState = in_clinit m body.max_stack body.max_locals (current_frame e) in
      record_told e (Enter x.state.guest.clock e.thread m 0) (with_frame e f x) (enter_named e.program _ _ m _ is) (frame_told e f x (names_come Level x h))
  names_come ph d (BeginsClass c x h) = thread_told e (entered_by (initializer_frame c) (thread_at x.state.guest e.thread)) x (names_come Level x h)
  names_come ph d (Returns values framed is f has owned) =
      let stage : Stage = (current_frame e).stage in
      let x : Doing = class_done_by stage (left_some (own_lock e) (begins e)) in
      let t : ThreadState = record (thread_of e) { frames = frames_after_return e.program stage values (rest_of (thread_of e).frames) } in
      record_told e _ (with_thread_state e t x) (exit_named e.program _ _ (unwrap_or (current_frame e).method 0) is) (thread_told e t x (done_told e stage (left_some (own_lock e) (begins e)) (left_some_told e (own_lock e) (begins e) (begun e))))
  names_come ph d (Unwinds o framed is held has) =
      let x : Doing = left_if_owned e (own_lock e) (begins e) in
      record_told e _ (dropped e x) (unwind_named e.program _ _ (unwrap_or (current_frame e).method 0) _ is) (dropped_told e x (owned_told e (own_lock e) (begins e) (begun e)))
  names_come ph d (UnwindsClinit o framed is held none) = record_told e _ (dropped e (begins e)) (unwind_named e.program _ _ (unwrap_or (current_frame e).method 0) _ is) (dropped_told e (begins e) (begun e))
  names_come ph d (Drops x h framed none) = dropped_told e x (names_come Level x h)
  names_come ph d (Catches o handler framed held) = thread_told e (with_pending None (with_top_of (thread_of e) (handled (current_frame e) handler o))) (begins e) (begun e)
  names_come ph d (CountsEntered x h) = thread_told e (as_entered (thread_at x.state.guest e.thread)) x (names_come Level x h)
  names_come ph d (Pends q o x h a) = pending_told e o x (names_come q x h)
  names_come ph d (Starts o x h a) = guest_told e (with_new_thread x.state.guest (new_thread None (Some o))) x refl (names_come Level x h)
  names_come ph d Ends = thread_told e (as_ended (thread_of e)) (begins e) (begun e)
  names_come ph d (ClassBecomes q c y x h) = state_told e c y x (names_come q x h)
  names_come ph d (WritesStatic i v x h lt a typed other) = static_told e i v x (names_come Level x h)
  names_come ph d (Interns bytes x h) = interned_told e bytes x ready.may.makes.string.class (names_come Level x h)
  names_come ph d (MakesInstance q class x makes h lt plain) = instance_told e class x lt (names_come q x h)
  names_come ph d (MakesArray class n x makes h array) = array_told e class n x array.within (names_come Level x h)
  names_come ph d (WritesSlot q o i v x h a tells) = slot_told e o i v x (names_come q x h)
  names_come ph d (EntersMonitor o x h at held) = entered_told e (OfObject o) x (names_come Level x h)
  names_come ph d (LeavesMonitor o x h at held) = left_told e (OfObject o) x (names_come Level x h)
  names_come ph d (SetsReferent o r x h a) = referent_told e o r x (names_come Level x h)
  names_come ph d (SetsQueue o q x h a) = queue_told e o q x (names_come Level x h)
  names_come ph d (Polls q x h a) = first_taken_told e q x (names_come Level x h)

  pub by_names : (o : Outcome Kept) → Leads e o → IsToldOf e.program e.before o
  by_names (outcome.Goes next records) h =
      let d : Doing = record { state = next; records = records } in
      let made : MadeOf e ready d = comes_so e ready d h in
      let t : Tells e d = names_come made.phase d made.comes in
      (t.clock, t.records)
  by_names (outcome.Waits next) h = ap (λ (s : Kept). s.guest.clock) h
  by_names (outcome.IllTyped method pc) h = tt
  by_names outcome.ObjectLimit h = tt

pub told_event : (p : Linked) (s : Kept) (t : ℕ) → IsSoundFor p s → IsUnended s.guest t → IsRunnable p → IsToldOf p s (event p s t)
told_event p s t sound unended may =
    let e : Moment = record { program = p; before = s; thread = t } in
    let ready : Ready e = record { knows = record { sound = sound; thread = unended; classes = may.owners }; may = may } in
    by_names e ready (event p s t) (event_leads p s t sound unended may)
