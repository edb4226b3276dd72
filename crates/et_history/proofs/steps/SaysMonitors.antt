-- What an event does to monitors.
use Rattle.et_base.specs.declared.value.Value.{Value}
use Rattle.et_code.specs.Bodies.{Body}
use Rattle.et_event.specs.Calls.{class_done_by, frame_returned}
use Rattle.et_event.specs.Frames.{frame_entered, frames_after_return, method_frame, receiver_of}
use Rattle.et_event.specs.Initialization.{initializer_frame, with_state}
use Rattle.et_event.specs.Moments.{Doing, Moment, begins, current_frame, instance_made, pending_now, slot_written, thread_of, with_thread_state}
use Rattle.et_event.specs.Monitors.{Lock, entered_some, left_some, lock_for, lock_in, may_enter, may_enter_some, owns_some}
use Rattle.et_event.specs.Sites.{running_method}
use Rattle.et_event.specs.Throw.{dropped, handled, left_if_owned}
use Rattle.et_heap.specs.Objects.{IsHeld, ObjectState, at, object_at, slot_of, with_object_at, with_slot}
use Rattle.et_program.specs.Entries.{Linked, method_at}
use Rattle.et_history.specs.soundness.WellFormed.{IsThere}
use Rattle.et_event.proofs.Values.{updated_state}
use Rattle.et_history.proofs.soundness.Frames.{length-resumed}
use Rattle.et_state.specs.Outcome.{Outcome}
use Rattle.et_state.specs.State.{Kept}
use Rattle.et_state.specs.Threads.{FrameState, ThreadState, as_ended, entered_by, in_clinit, rest_of, turn_of, with_pending, with_top_of}
use Rattle.et_state.specs.Words.{thread_at}
use Rattle.et_state.specs.declared.class_state.ClassState.{ClassState}
use Rattle.et_state.specs.declared.stage.Stage.{Stage}
use Rattle.et_history.proofs.steps.Folding.{MadeOf, comes_so}
use Rattle.et_history.proofs.steps.Held.{Ready, frame_fine, frames_grow, method_frame_fine, returned_fine, thread_fine}
use Rattle.et_history.proofs.steps.MonitorFrames.{Does, Fits, all_there, beyond_none, beyond_one, done_still, dropped_lock, dropped_still, entered_some_still, fits_by, frames_are, left_if_still, left_some_still, level_fits, may_go, moved_by, pushed_lock, rest_shorter, same_lock}
use Rattle.et_history.proofs.steps.Monitors.{way}
use Rattle.et_history.proofs.steps.Values.{frame_grows, rest_fine, some_grows}
use Rattle.et_history.proofs.steps.Words.{Still, Way, array_still, as_entered_still, begun, counted, first_taken_still, instance_still, interned_still, level, pending_still, queue_still, referent_still, slot_still, started_still, state_still, still_thread, thread_now, thread_still, top_still, written_static_still}
use Rattle.et_history.specs.steps.Holding.{lock_beyond, monitor_row_at}
use Rattle.et_history.specs.steps.Steps.{AllObjects, AllThere, Begins, BeginsClass, Catches, ClassBecomes, Comes, CountsEntered, Drops, Ends, EntersClinit, EntersCode, EntersMonitor, GoesOn, Interns, IsFramed, IsUnder, Leads, LeavesMonitor, Level, Locked, MakesArray, MakesInstance, MayWrite, Pends, Phase, Polls, Returns, SetsQueue, SetsReferent, Shifted, Starts, Unwinds, UnwindsClinit, WritesSlot, WritesStatic, own_lock}
use Rattle.et_history.specs.steps.Values.{FineFrame, FineThread, Fines, Grows}
use Rattle.std.proofs.Common.{List, None, Option, Some, ap, arith, length, refl, suc, sym, true, ℕ, ◌∙◌, ◌∷◌, ◌≡◌}
use Rattle.std.proofs.lemmas.Bool.{true≢false}
use Rattle.std.specs.Prelude.{IfSome}
use Rattle.et_state.specs.Outcome as outcome

-- what a state is to which an event has come so
under : (e : Moment) {w : Way} (d : Doing) → Still e w d.state → IsUnder e d.state
under e d h = record { sound = h.changes.sound; clock = h.changes.clock; thread = h.thread; stays = h.changes.stays }

-- A FRAME MORE, OR ONE LESS: what the frames say was entered and left is what was
record Shifts (e : Moment) (s : Kept) : Type 0 where
  course : Way
  still : Still e course s
  pushes : pushed_lock e s ≡ course.entry
  drops : dropped_lock e s ≡ course.exit
  may : IfSome course.entry (λ lock. IsThere e.before lock × (may_enter e (begins e) lock ≡ true))
  has : IfSome course.exit (λ lock. IsThere e.before lock)

shifts_fit : (e : Moment) (s : Kept) → Shifts e s → Fits e s
shifts_fit e s h = fits_by e h.course.entry h.course.exit s h.pushes h.drops (moved_by e h.course.entry h.course.exit s h.still h.may h.has)

-- .. and what changes no frame keeps that
shifts_on : (e : Moment) (s s' : Kept) → Shifts e s → ((w : Way) → Still e w s → Still e w s') → (thread_at s'.guest e.thread).frames ≡ (thread_at s.guest e.thread).frames → Shifts e s'
shifts_on e s s' h step same = record {
  course = h.course;
  still = step h.course h.still;
  pushes = ap (λ (fs : List FrameState). lock_beyond e.program fs (thread_of e).frames) same ∙ h.pushes;
  drops = ap (λ (fs : List FrameState). lock_beyond e.program (thread_of e).frames fs) same ∙ h.drops;
  may = h.may;
  has = h.has;
}

-- a frame is pushed, with its lock entered
pushed_shifts : (e : Moment) (f : FrameState) (lock : Option Lock) (x : Doing) → Still e (way (length (thread_of e).frames) lock None) x.state → FineFrame x.state.heap f → lock_in f.stage (running_method e.program f) f.lock ≡ lock
    → IfSome lock (λ l. IsThere e.before l × (may_enter e (begins e) l ≡ true)) → Shifts e (with_thread_state e (entered_by f (thread_at x.state.guest e.thread)) x).state
pushed_shifts e f lock x h fine same may =
    let t : ThreadState = thread_at x.state.guest e.thread in
    let was : FineThread x.state.heap t = still_thread e x.state h in
    let now : FineThread x.state.heap (entered_by f t) = record { frames = (fine, was.frames); pending = was.pending; entry = was.entry; object = was.object } in
    let is : (thread_at (with_thread_state e (entered_by f t) x).state.guest e.thread).frames ≡ f ∷ t.frames = ap (λ (y : ThreadState). y.frames) (thread_now x.state e.thread (entered_by f t) h.thread) in
    let count : length t.frames ≡ length (thread_of e).frames = h.frames in
    record {
      course = way (length (f ∷ t.frames)) lock None;
      still = thread_still e (entered_by f t) x.state h now;
      pushes = ap (λ (gs : List FrameState). lock_beyond e.program gs (thread_of e).frames) is ∙ (beyond_one e.program f t.frames (thread_of e).frames count ∙ same);
      drops = ap (λ (gs : List FrameState). lock_beyond e.program (thread_of e).frames gs) is ∙ beyond_none e.program (thread_of e).frames (f ∷ t.frames) (λ q. omega (arith, q, count));
      may = may;
      has = tt;
    }

-- the topmost frame is dropped, with its lock left
dropped_shifts : (e : Moment) (n : ℕ) (lock : Option Lock) (s : Kept) → IsFramed e → Still e (way n None lock) s → n ≡ length (rest_of (thread_of e).frames) → own_lock e ≡ lock → IfSome lock (λ l. IsThere e.before l) → Shifts e s
dropped_shifts e n lock s framed h shorter same has =
    let fs : List FrameState = (thread_at s.guest e.thread).frames in
    let more : length (thread_of e).frames ≡ suc (length (rest_of (thread_of e).frames)) = rest_shorter (thread_of e).frames framed in
    let count : length fs ≡ length (rest_of (thread_of e).frames) = h.frames ∙ shorter in
    record {
      course = way n None lock;
      still = h;
      pushes = beyond_none e.program fs (thread_of e).frames (λ q. omega (arith, q, count, more));
      drops = ap (λ (gs : List FrameState). lock_beyond e.program gs fs) (frames_are (thread_of e).frames framed) ∙ (beyond_one e.program (current_frame e) (rest_of (thread_of e).frames) fs (sym count) ∙ same);
      may = tt;
      has = has;
    }

module _ (e : Moment) (ready : Ready e) (none : monitor_row_at e (turn_of (thread_of e)) ≡ None) where
  here : Still e (level e) (begins e).state
  here = begun e ready.knows.sound.held ready.knows.thread.thread

  abbrev Good : Phase → Doing → Type 0
  Good Level d = Still e (level e) d.state
  Good Shifted d = Shifts e d.state
  Good Locked d = ⊥

  returned_shifts : (values : List Value) → IsFramed e → Fines e.before.heap values → AllThere e (own_lock e) → owns_some e (begins e) (own_lock e) ≡ true → Shifts e (frame_returned e values (begins e)).state
  returned_shifts values framed f has owned =
      let p : Linked = e.program in
      let stage : Stage = (current_frame e).stage in
      let lock : Option Lock = own_lock e in
      let n : ℕ = length (thread_of e).frames in
      let x : Doing = class_done_by stage (left_some lock (begins e)) in
      let h : Still e (way n None lock) x.state = done_still e stage (left_some lock (begins e)) (left_some_still e n lock (begins e) here has owned) in
      let grown : Grows e.before.heap x.state.heap = h.changes.stays in
      let below : List FrameState = rest_of (thread_of e).frames in
      let fs : List FrameState = frames_after_return p stage values below in
      let was : FineThread e.before.heap (thread_of e) = thread_fine e ready in
      let t : ThreadState = record (thread_of e) { frames = fs } in
      let now : FineThread x.state.heap t = record {
        frames = frames_grow e.before.heap x.state.heap fs grown (returned_fine e.before.heap p stage values below f (rest_fine e.before.heap (thread_of e).frames was.frames));
        pending = some_grows e.before.heap x.state.heap (thread_of e).pending grown was.pending;
        entry = λ u. some_grows e.before.heap x.state.heap (thread_of e).entry grown (was.entry u);
        object = λ u. some_grows e.before.heap x.state.heap (thread_of e).object grown (was.object u);
      } in
      dropped_shifts e (length fs) lock (frame_returned e values (begins e)).state framed (thread_still e t x.state h now) (length-resumed p stage values below) refl (all_there e lock has)

  unwound_shifts : IsFramed e → AllThere e (own_lock e) → Shifts e (dropped e (left_if_owned e (own_lock e) (begins e))).state
  unwound_shifts framed has =
      let x : Doing = left_if_owned e (own_lock e) (begins e) in
      dropped_shifts e (length (rest_of (thread_of e).frames)) (own_lock e) (dropped e x).state framed (dropped_still e x refl (left_if_still e (length (thread_of e).frames) (own_lock e) (begins e) here has)) refl refl (all_there e (own_lock e) has)

  dropped_good : (d : Doing) → IsFramed e → own_lock e ≡ None → Still e (level e) d.state → Shifts e (dropped e d).state
  dropped_good d framed nothing h = dropped_shifts e (length (rest_of (thread_of e).frames)) None (dropped e d).state framed (dropped_still e d refl h) refl nothing tt

  entered_good : (m : ℕ) (body : Body) (arguments : List Value) (d : Doing) → Fines e.before.heap arguments → AllThere e (lock_for (method_at e.program m) (receiver_of e.program m arguments)) → may_enter_some e d (lock_for (method_at e.program m) (receiver_of e.program m arguments)) ≡ true
      → Still e (level e) d.state → Shifts e (frame_entered e m body arguments d).state
  entered_good m body arguments d f has may h =
      let lock : Option Lock = lock_for (method_at e.program m) (receiver_of e.program m arguments) in
      let x : Doing = entered_some e lock d in
      let g : Still e (way (length (thread_of e).frames) lock None) x.state = entered_some_still e (length (thread_of e).frames) lock d h has in
      let top : FrameState = method_frame e.program m body arguments in
      pushed_shifts e top lock x g (frame_grows e.before.heap x.state.heap top g.changes.stays (method_frame_fine e m body arguments f)) (same_lock e.program m arguments) (may_go e lock d h has may)

  caught_good : (o handler : ℕ) → IsFramed e → IsHeld e.before.heap o → Still e (level e) (with_thread_state e (with_pending None (with_top_of (thread_of e) (handled (current_frame e) handler o))) (begins e)).state
  caught_good o handler framed held =
      let t : ThreadState = with_pending None (with_top_of (thread_of e) (handled (current_frame e) handler o)) in
      let was : FineThread e.before.heap (thread_of e) = thread_fine e ready in
      let top : FineFrame e.before.heap (current_frame e) = frame_fine e ready in
      let now : FineThread e.before.heap t = record { frames = (record { locals = top.locals; operands = (held, tt); lock = top.lock }, rest_fine e.before.heap (thread_of e).frames was.frames); pending = tt; entry = was.entry; object = was.object } in
      counted e (length (thread_of e).frames) _ (sym (rest_shorter (thread_of e).frames framed)) (thread_still e t (begins e).state here now)

  ended_good : Still e (level e) (with_thread_state e (as_ended (thread_of e)) (begins e)).state
  ended_good =
      let was : FineThread e.before.heap (thread_of e) = thread_fine e ready in
      thread_still e (as_ended (thread_of e)) (begins e).state here (record { frames = was.frames; pending = tt; entry = λ u. tt; object = λ u. absurd (true≢false u) })

  -- steps of either phase
  pends_good : (ph : Phase) (o : ℕ) (d : Doing) → (IsUnder e d.state → IsHeld d.state.heap o) → Good ph d → Good ph (pending_now e o d)
  pends_good Level o d a h = pending_still e o d h (a (under e d h))
  pends_good Shifted o d a h =
      shifts_on e d.state (pending_now e o d).state h (λ w g. pending_still e o d g (a (under e d g))) (ap (λ (t : ThreadState). t.frames) (thread_now d.state e.thread (with_pending (Some o) (thread_at d.state.guest e.thread)) h.still.thread))
  pends_good Locked o d a h = h

  class_good : (ph : Phase) (c : ℕ) (x : ClassState) (d : Doing) → Good ph d → Good ph (with_state c x d)
  class_good Level c x d h = state_still e c x d.state h
  class_good Shifted c x d h = shifts_on e d.state (with_state c x d).state h (λ w g. state_still e c x d.state g) refl
  class_good Locked c x d h = h

  instance_good : (ph : Phase) (class : ℕ) (d : Doing) → Good ph d → Good ph (instance_made e class d)
  instance_good Level class d h = instance_still e class d h
  instance_good Shifted class d h = shifts_on e d.state (instance_made e class d).state h (λ w g. instance_still e class d g) refl
  instance_good Locked class d h = h

  slot_good : (ph : Phase) (o i : ℕ) (v : Value) (d : Doing) → (IsUnder e d.state → MayWrite d.state.heap o i v) → Good ph d → Good ph (slot_written e o i v d)
  slot_good Level o i v d a h = let m : MayWrite d.state.heap o i v = a (under e d h) in slot_still e o i v d h m.held m.value
  slot_good Shifted o i v d a h =
      let x : ObjectState = object_at d.state.heap o in
      let next : Doing = record { state = record { heap = with_object_at d.state.heap o (with_slot i v x); guest = d.state.guest }; records = d.records } in
      shifts_on e d.state (slot_written e o i v d).state h (λ w g. let m : MayWrite d.state.heap o i v = a (under e d g) in slot_still e o i v d g m.held m.value)
      (ap (λ (z : Kept). (thread_at z.guest e.thread).frames) (updated_state e o i (slot_of x i) v next))
  slot_good Locked o i v d a h = h

  -- THE STEPS

  monitors_come : (ph : Phase) (d : Doing) → Comes e AllObjects ph d → Good ph d
  monitors_come ph d Begins = here
  monitors_come ph d (GoesOn f x h framed a) = let g : Still e (level e) x.state = monitors_come Level x h in top_still e f x.state framed g (a (under e x g))
  monitors_come ph d (EntersCode m body arguments x h is f has may) = entered_good m body arguments x f has may (monitors_come Level x h)
  monitors_come ph d (EntersClinit m body x h framed is fine) =
      let f : FrameState = in_clinit m body.max_stack body.max_locals (current_frame e) in
      let g : Still e (level e) x.state = monitors_come Level x h in
      top_still e f x.state framed g (frame_grows e.before.heap x.state.heap f g.changes.stays fine)
  monitors_come ph d (BeginsClass c x h) = pushed_shifts e (initializer_frame c) None x (monitors_come Level x h) (record { locals = tt; operands = tt; lock = tt }) refl tt
  monitors_come ph d (Returns values framed is f has owned) = returned_shifts values framed f has owned
  monitors_come ph d (Unwinds o framed is held has) = unwound_shifts framed has
  monitors_come ph d (UnwindsClinit o framed is held nothing) = dropped_good (begins e) framed nothing here
  monitors_come ph d (Drops x h framed nothing) = dropped_good x framed nothing (monitors_come Level x h)
  monitors_come ph d (Catches o handler framed held) = caught_good o handler framed held
  monitors_come ph d (CountsEntered x h) = as_entered_still e x (monitors_come Level x h)
  monitors_come ph d (Pends q o x h a) = pends_good q o x a (monitors_come q x h)
  monitors_come ph d (Starts o x h a) = let g : Still e (level e) x.state = monitors_come Level x h in started_still e o x g (a (under e x g))
  monitors_come ph d Ends = ended_good
  monitors_come ph d (ClassBecomes q c y x h) = class_good q c y x (monitors_come q x h)
  monitors_come ph d (WritesStatic i v x h lt a typed other) = let g : Still e (level e) x.state = monitors_come Level x h in written_static_still e i v x g (a (under e x g))
  monitors_come ph d (Interns bytes x h) = (interned_still e bytes x (monitors_come Level x h)).still
  monitors_come ph d (MakesInstance q class x makes h lt plain) = instance_good q class x (monitors_come q x h)
  monitors_come ph d (MakesArray class n x makes h array) = array_still e class n x (monitors_come Level x h)
  monitors_come ph d (WritesSlot q o i v x h a tells) = slot_good q o i v x a (monitors_come q x h)
  monitors_come ph d (EntersMonitor o x h at held) = absurd (at none)
  monitors_come ph d (LeavesMonitor o x h at held) = absurd (at none)
  monitors_come ph d (SetsReferent o r x h a) = let g : Still e (level e) x.state = monitors_come Level x h in referent_still e o r x g (a (under e x g)).0 (a (under e x g)).1
  monitors_come ph d (SetsQueue o q x h a) = let g : Still e (level e) x.state = monitors_come Level x h in queue_still e o q x g (a (under e x g)).0 (a (under e x g)).1
  monitors_come ph d (Polls q x h a) = let g : Still e (level e) x.state = monitors_come Level x h in first_taken_still e q x g (a (under e x g))

  fits_so : (ph : Phase) (d : Doing) → Good ph d → Fits e d.state
  fits_so Level d h = level_fits e d.state h
  fits_so Shifted d h = shifts_fit e d.state h
  fits_so Locked d h = absurd h

  pub by_steps : (ph : Phase) (d : Doing) → Comes e AllObjects ph d → Fits e d.state
  by_steps ph d h = fits_so ph d (monitors_come ph d h)

  pub by_monitors : (o : Outcome Kept) → Leads e o → Does e o
  by_monitors (outcome.Goes next records) h =
      let d : Doing = record { state = next; records = records } in
      let made : MadeOf e ready d = comes_so e ready d h in
      by_steps made.phase d made.comes
  by_monitors (outcome.Waits next) h = h
  by_monitors (outcome.IllTyped method pc) h = tt
  by_monitors outcome.ObjectLimit h = tt
