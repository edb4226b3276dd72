-- What the records of an event tell of objects.
use Rattle.et_base.specs.declared.value.Value.{Value}
use Rattle.et_class.specs.Names.{has}
use Rattle.et_code.specs.Bodies.{Body}
use Rattle.et_event.specs.Calls.{class_done_by, frame_returned}
use Rattle.et_event.specs.Event.{event}
use Rattle.et_event.specs.Frames.{frame_entered, frames_after_return, method_frame, receiver_of}
use Rattle.et_event.specs.Initialization.{initializer_frame}
use Rattle.et_event.specs.Moments.{Doing, Moment, begins, current_frame, thread_of, told, with_frame, with_thread_state}
use Rattle.et_event.specs.Monitors.{Lock, OfClass, OfObject, entered, entered_some, left, left_once, left_some, lock_for, monitor_of, owns}
use Rattle.et_event.specs.Runnable.{IsRunnable}
use Rattle.et_event.specs.Sound.{IsSoundFor}
use Rattle.et_event.specs.Throw.{dropped, handled, left_if_owned}
use Rattle.et_heap.specs.Objects.{IsHeld, at}
use Rattle.et_program.specs.Entries.{Linked, method_at}
use Rattle.et_history.proofs.soundness.Wholes.{sound}
use Rattle.et_history.proofs.soundness.Outcomes.{if_case}
use Rattle.et_state.specs.Outcome.{Outcome}
use Rattle.et_state.specs.State.{Kept}
use Rattle.et_state.specs.Threads.{FrameState, ThreadState, as_ended, entered_by, in_clinit, rest_of, with_pending, with_top_of, without_top}
use Rattle.et_state.specs.Words.{IsUnended, thread_at}
use Rattle.et_state.specs.declared.class_state.ClassState.TheVariants.{Done}
use Rattle.et_state.specs.declared.records.Record.TheVariants.{Enter, Exit, Unwind}
use Rattle.et_state.specs.declared.stage.Stage.{Stage}
use Rattle.et_state.specs.declared.stage.Stage.TheVariants.{Before, Clinit, Plain}
use Rattle.et_history.proofs.steps.Folding.{MadeOf, comes_so}
use Rattle.et_history.proofs.steps.Held.{Ready, frame_fine, frames_grow, method_frame_fine, receiver_fine, returned_fine, thread_fine}
use Rattle.et_history.proofs.steps.Recording.{HasLock, Told, array_told, as_entered_told, begun, first_taken_told, instance_told, interned_told, monitor_told, pending_told, queue_told, record_told, referent_told, slot_told, some_there, started_told, state_told, there, thread_told, told_thread, top_told, written_static_told}
use Rattle.et_history.proofs.steps.Turns.{event_leads}
use Rattle.et_history.proofs.steps.Values.{frame_grows, rest_fine, some_grows}
use Rattle.et_history.specs.steps.Records.{HasPlainStrings, TellsObjects}
use Rattle.et_history.specs.steps.Steps.{AllObjects, AllThere, Begins, BeginsClass, Catches, ClassBecomes, Comes, CountsEntered, Drops, Ends, EntersClinit, EntersCode, EntersMonitor, GoesOn, Interns, IsUnder, Leads, LeavesMonitor, Level, MakesArray, MakesInstance, MayWrite, Pends, Phase, Polls, Returns, SetsQueue, SetsReferent, Starts, Unwinds, UnwindsClinit, WritesSlot, WritesStatic, own_lock}
use Rattle.et_history.specs.steps.Values.{FineFrame, FineThread, Fines, Grows}
use Rattle.std.proofs.Common.{List, None, Option, Some, ap, refl, ℕ, ◌+◌}
use Rattle.std.proofs.lemmas.Bool.{true≢false}
use Rattle.std.specs.Prelude.{unwrap_or}
use Rattle.et_state.specs.Outcome as outcome

-- MONITORS

entered_told : (e : Moment) (lock : Lock) (d : Doing) → Told e d → HasLock d lock → Told e (entered e lock d)
entered_told e lock d h has = monitor_told e lock (record { owner = Some e.thread; count = (monitor_of d lock).count + 1 }) d h has

left_told : (e : Moment) (lock : Lock) (d : Doing) → Told e d → HasLock d lock → Told e (left lock d)
left_told e lock d h has = monitor_told e lock (left_once (monitor_of d lock)) d h has

pub still_there : (e : Moment) (lock : Lock) (d : Doing) → Told e d → AllThere e (Some lock) → HasLock d lock
still_there e (OfObject o) d h held = h.steady.stays o held
still_there e (OfClass c) d h has = tt

entered_some_told : (e : Moment) (lock : Option Lock) (d : Doing) → Told e d → AllThere e lock → Told e (entered_some e lock d)
entered_some_told e None d h has = h
entered_some_told e (Some lock) d h has = entered_told e lock d h (still_there e lock d h has)

left_some_told : (e : Moment) (lock : Option Lock) (d : Doing) → Told e d → AllThere e lock → Told e (left_some lock d)
left_some_told e None d h has = h
left_some_told e (Some lock) d h has = left_told e lock d h (still_there e lock d h has)

left_if_told : (e : Moment) (lock : Option Lock) (d : Doing) → Told e d → AllThere e lock → Told e (left_if_owned e lock d)
left_if_told e None d h has = h
left_if_told e (Some lock) d h has = if_case (λ (x : Doing). Told e x) (owns e d lock) (left lock d) d (left_told e lock d h (still_there e lock d h has)) h

-- what a state with these records is
pub under : (e : Moment) (d : Doing) → Told e d → IsUnder e d.state
under e d h = record { sound = h.sound; clock = h.clock; thread = h.thread; stays = h.steady.stays }

module _ (e : Moment) (ready : Ready e) (strings : HasPlainStrings e.program) where
  first : Told e (begins e)
  first = begun e ready.knows.sound.held ready.knows.thread.thread

  -- FRAMES

  frame_told : (m : ℕ) (body : Body) (arguments : List Value) (d : Doing) → Fines e.before.heap arguments → AllThere e (lock_for (method_at e.program m) (receiver_of e.program m arguments)) → Told e d → Told e (frame_entered e m body arguments d)
  frame_told m body arguments d f has h =
      let p : Linked = e.program in
      let receiver : Option ℕ = receiver_of p m arguments in
      let lock : Option Lock = lock_for (method_at p m) receiver in
      let x : Doing = entered_some e lock d in
      let hx : Told e x = entered_some_told e lock d h has in
      let t : ThreadState = thread_at x.state.guest e.thread in
      let was : FineThread x.state.heap t = told_thread e x hx in
      let top : FrameState = method_frame p m body arguments in
      let now : FineFrame x.state.heap top = frame_grows e.before.heap x.state.heap top hx.steady.stays (method_frame_fine e m body arguments f) in
      let y : Doing = with_thread_state e (entered_by top t) x in
      let hy : Told e y = thread_told e (entered_by top t) x hx (record { frames = (now, was.frames); pending = was.pending; entry = was.entry; object = was.object }) in
      record_told e (Enter x.state.guest.clock e.thread m (unwrap_or receiver 0)) y hy refl (hx.clock, refl, some_there y receiver (some_grows e.before.heap x.state.heap receiver hx.steady.stays (receiver_fine e.before.heap p m arguments f)))

  done_told : (stage : Stage) (d : Doing) → Told e d → Told e (class_done_by stage d)
  done_told Plain d h = h
  done_told (Before c) d h = h
  done_told (Clinit c) d h = state_told e c Done d h

  returned_told : (values : List Value) → Fines e.before.heap values → AllThere e (own_lock e) → Told e (frame_returned e values (begins e))
  returned_told values f has =
      let stage : Stage = (current_frame e).stage in
      let lock : Option Lock = own_lock e in
      let x : Doing = class_done_by stage (left_some lock (begins e)) in
      let hx : Told e x = done_told stage (left_some lock (begins e)) (left_some_told e lock (begins e) first has) in
      let grown : Grows e.before.heap x.state.heap = hx.steady.stays in
      let below : List FrameState = rest_of (thread_of e).frames in
      let fs : List FrameState = frames_after_return e.program stage values below in
      let was : FineThread e.before.heap (thread_of e) = thread_fine e ready in
      let t : ThreadState = record (thread_of e) { frames = fs } in
      let now : FineThread x.state.heap t = record {
        frames = frames_grow e.before.heap x.state.heap fs grown (returned_fine e.before.heap e.program stage values below f (rest_fine e.before.heap (thread_of e).frames was.frames));
        pending = some_grows e.before.heap x.state.heap (thread_of e).pending grown was.pending;
        entry = λ u. some_grows e.before.heap x.state.heap (thread_of e).entry grown (was.entry u);
        object = λ u. some_grows e.before.heap x.state.heap (thread_of e).object grown (was.object u);
      } in
      record_told e (Exit x.state.guest.clock e.thread (unwrap_or (current_frame e).method 0)) (with_thread_state e t x) (thread_told e t x hx now) refl (hx.clock, refl)

  dropped_told : (d : Doing) → Told e d → Told e (dropped e d)
  dropped_told d h =
      let t : ThreadState = thread_at d.state.guest e.thread in
      let was : FineThread d.state.heap t = told_thread e d h in
      thread_told e (without_top t) d h (record { frames = rest_fine d.state.heap t.frames was.frames; pending = was.pending; entry = was.entry; object = was.object })

  unwind_told : (o : ℕ) (d : Doing) → IsHeld e.before.heap o → Told e d → Told e (told (Unwind (begins e).state.guest.clock e.thread (unwrap_or (current_frame e).method 0) o) (dropped e d))
  unwind_told o d held h =
      let y : Doing = dropped e d in
      let hy : Told e y = dropped_told d h in
      record_told e (Unwind (begins e).state.guest.clock e.thread (unwrap_or (current_frame e).method 0) o) y hy refl (refl, refl, there y o (hy.steady.stays o held))

  caught_told : (o handler : ℕ) → IsHeld e.before.heap o → Told e (with_thread_state e (with_pending None (with_top_of (thread_of e) (handled (current_frame e) handler o))) (begins e))
  caught_told o handler held =
      let t : ThreadState = with_pending None (with_top_of (thread_of e) (handled (current_frame e) handler o)) in
      let was : FineThread e.before.heap (thread_of e) = thread_fine e ready in
      let top : FineFrame e.before.heap (current_frame e) = frame_fine e ready in
      thread_told e t (begins e) first (record {
        frames = (record { locals = top.locals; operands = (held, tt); lock = top.lock }, rest_fine e.before.heap (thread_of e).frames was.frames);
        pending = tt;
        entry = was.entry;
        object = was.object;
      })

  ended_told : Told e (with_thread_state e (as_ended (thread_of e)) (begins e))
  ended_told =
      let was : FineThread e.before.heap (thread_of e) = thread_fine e ready in
      thread_told e (as_ended (thread_of e)) (begins e) first (record { frames = was.frames; pending = tt; entry = λ u. tt; object = λ u. absurd (true≢false u) })

  initializer_told : (c : ℕ) (d : Doing) → Told e d → Told e (with_thread_state e (entered_by (initializer_frame c) (thread_at d.state.guest e.thread)) d)
  initializer_told c d h =
      let t : ThreadState = thread_at d.state.guest e.thread in
      let was : FineThread d.state.heap t = told_thread e d h in
      thread_told e (entered_by (initializer_frame c) t) d h (record { frames = (record { locals = tt; operands = tt; lock = tt }, was.frames); pending = was.pending; entry = was.entry; object = was.object })

  -- THE STEPS

  pub records_come : (ph : Phase) (d : Doing) → Comes e AllObjects ph d → Told e d
  records_come ph d Begins = first
  records_come ph d (GoesOn f x h framed a) = let g : Told e x = records_come Level x h in top_told e f x g (a (under e x g))
  records_come ph d (EntersCode m body arguments x h is f has may) = frame_told m body arguments x f has (records_come Level x h)
  records_come ph d (EntersClinit m body x h framed is fine) =
      let f : FrameState = in_clinit m body.max_stack body.max_locals (current_frame e) in
      let g : Told e x = records_come Level x h in
      let y : Doing = with_frame e f x in
      record_told e (Enter x.state.guest.clock e.thread m 0) y (top_told e f x g (frame_grows e.before.heap x.state.heap f g.steady.stays fine)) refl (g.clock, refl, some_there y None tt)
  records_come ph d (BeginsClass c x h) = initializer_told c x (records_come Level x h)
  records_come ph d (Returns values framed is f has owned) = returned_told values f has
  records_come ph d (Unwinds o framed is held has) = unwind_told o (left_if_owned e (own_lock e) (begins e)) held (left_if_told e (own_lock e) (begins e) first has)
  records_come ph d (UnwindsClinit o framed is held none) = unwind_told o (begins e) held first
  records_come ph d (Drops x h framed none) = dropped_told x (records_come Level x h)
  records_come ph d (Catches o handler framed held) = caught_told o handler held
  records_come ph d (CountsEntered x h) = as_entered_told e x (records_come Level x h)
  records_come ph d (Pends q o x h a) = let g : Told e x = records_come q x h in pending_told e o x g (a (under e x g))
  records_come ph d (Starts o x h a) = let g : Told e x = records_come Level x h in started_told e o x g (a (under e x g))
  records_come ph d Ends = ended_told
  records_come ph d (ClassBecomes q c y x h) = state_told e c y x (records_come q x h)
  records_come ph d (WritesStatic i v x h lt a typed other) = let g : Told e x = records_come Level x h in written_static_told e i v x g lt (a (under e x g))
  records_come ph d (Interns bytes x h) = (interned_told e bytes x strings (records_come Level x h)).tells
  records_come ph d (MakesInstance q class x makes h lt plain) = instance_told e class x (records_come q x h) plain
  records_come ph d (MakesArray class n x makes h array) = array_told e class n x (records_come Level x h) array.array
  records_come ph d (WritesSlot q o i v x h a tells) = let g : Told e x = records_come q x h in let w : MayWrite x.state.heap o i v = a (under e x g) in slot_told e o i v x g w.held w.slot w.value
  records_come ph d (EntersMonitor o x h at held) = let g : Told e x = records_come Level x h in entered_told e (OfObject o) x g (g.steady.stays o held)
  records_come ph d (LeavesMonitor o x h at held) = let g : Told e x = records_come Level x h in left_told e (OfObject o) x g (g.steady.stays o held)
  records_come ph d (SetsReferent o r x h a) = let g : Told e x = records_come Level x h in referent_told e o r x g (a (under e x g)).0 (a (under e x g)).1
  records_come ph d (SetsQueue o q x h a) = let g : Told e x = records_come Level x h in queue_told e o q x g (a (under e x g)).0 (a (under e x g)).1
  records_come ph d (Polls q x h a) = let g : Told e x = records_come Level x h in first_taken_told e q x g (a (under e x g))

  pub by_objects : (o : Outcome Kept) → Leads e o → TellsObjects e.program e.before e.thread o
  by_objects (outcome.Goes next records) h =
      let d : Doing = record { state = next; records = records } in
      let made : MadeOf e ready d = comes_so e ready d h in
      let t : Told e d = records_come made.phase d made.comes in
      record { tells = t.records; stays = t.steady.stays; alike = t.steady.alike }
  by_objects (outcome.Waits next) h = ap (λ (s : Kept). s.heap) h
  by_objects (outcome.IllTyped method pc) h = tt
  by_objects outcome.ObjectLimit h = tt

pub event_tells : (p : Linked) (s : Kept) (t : ℕ) → IsSoundFor p s → IsUnended s.guest t → IsRunnable p → HasPlainStrings p → TellsObjects p s t (event p s t)
event_tells p s t sound unended may plain =
    let e : Moment = record { program = p; before = s; thread = t } in
    let ready : Ready e = record { knows = record { sound = sound; thread = unended; classes = may.owners }; may = may } in
    by_objects e ready plain (event p s t) (event_leads p s t sound unended may)
