-- What frames say of monitors.
use Rattle.et_base.specs.declared.value.Value.{Value}
use Rattle.et_class.specs.Names.{has}
use Rattle.et_class.specs.declared.flags.TheConstants.{STATIC, SYNCHRONIZED}
use Rattle.et_event.specs.Calls.{class_done_by}
use Rattle.et_event.specs.Frames.{lock_slot, receiver_of}
use Rattle.et_event.specs.Moments.{Doing, Moment, begins, later, thread_of}
use Rattle.et_event.specs.Monitors.{Lock, OfClass, OfObject, entered, entered_some, is_open_to, left, left_some, lock_for, lock_in, may_enter, may_enter_some, monitor_of, owns, owns_some}
use Rattle.et_event.specs.Sites.{running_method}
use Rattle.et_event.specs.Throw.{dropped, left_if_owned}
use Rattle.et_heap.specs.declared.monitor.Monitor.{Monitor}
use Rattle.et_program.specs.Entries.{Linked, method_at}
use Rattle.et_history.specs.soundness.WellFormed.{IsThere}
use Rattle.et_state.specs.Outcome.{Outcome}
use Rattle.et_state.specs.State.{Kept}
use Rattle.et_state.specs.Threads.{FrameState, ThreadState, first_frame, rest_of, without_top}
use Rattle.et_state.specs.Words.{thread_at}
use Rattle.et_state.specs.declared.class_state.ClassState.TheVariants.{Done}
use Rattle.et_state.specs.declared.stage.Stage.{Stage}
use Rattle.et_state.specs.declared.stage.Stage.TheVariants.{Before, Clinit, Plain}
use Rattle.et_history.proofs.steps.Monitors.{entered_still, first_monitor, is_there, left_still, monitor_same, unowned_still, way}
use Rattle.et_history.proofs.steps.Values.{rest_fine}
use Rattle.et_history.proofs.steps.WaitingLists.{KeepLists}
use Rattle.et_history.proofs.steps.Words.{Still, Way, counted, level, state_still, still_thread, thread_still, with_frames}
use Rattle.et_history.specs.steps.Changing.{MovesMonitors}
use Rattle.et_history.specs.steps.Holding.{lock_beyond}
use Rattle.et_history.specs.steps.Steps.{AllThere, HasMonitor}
use Rattle.et_history.specs.steps.Values.{FineThread}
use Rattle.std.proofs.Common.{Bool, List, None, Option, Some, [], ap, arith, false, length, refl, subst, suc, sym, true, ℕ, ◌<◌, ◌==◌, ◌∙◌, ◌∷◌, ◌≡◌}
use Rattle.std.proofs.lemmas.Bool.{eq-eqb, eqb-true}
use Rattle.std.specs.Prelude.{IfSome, if◌then◌else◌, option_map}
use Rattle.et_state.specs.Outcome as outcome

abbrev pub pushed_lock : Moment → Kept → Option Lock
pushed_lock e after = lock_beyond e.program (thread_at after.guest e.thread).frames (thread_of e).frames

abbrev pub dropped_lock : Moment → Kept → Option Lock
dropped_lock e after = lock_beyond e.program (thread_of e).frames (thread_at after.guest e.thread).frames

-- monitors are entered and left so, and what waits waits in one list
pub record Moved (e : Moment) (entry exit : Option Lock) (after : Kept) : Type 0 where
  pub moves : MovesMonitors e entry exit after
  pub lists : KeepLists e.before.heap after.heap

-- .. where the event has come so far
pub moved_by : (e : Moment) {n : ℕ} (entry exit : Option Lock) (s : Kept) → Still e (record { frames = n; entry = entry; exit = exit }) s
    → IfSome entry (λ lock. IsThere e.before lock × (may_enter e (begins e) lock ≡ true)) → IfSome exit (λ lock. IsThere e.before lock) → Moved e entry exit s
moved_by e entry exit s h entered left = record { moves = record { changes = h.changes; entered = entered; left = left }; lists = h.lists }

abbrev pub Fits : Moment → Kept → Type 0
Fits e after = Moved e (pushed_lock e after) (dropped_lock e after) after

abbrev pub Does : Moment → Outcome Kept → Type 0
Does e (outcome.Goes after records) = Fits e after
Does e (outcome.Waits after) = after ≡ later e.before
Does e (outcome.IllTyped method pc) = Unit {0}
Does e outcome.ObjectLimit = Unit {0}

pub beyond_none : (p : Linked) (fs gs : List FrameState) → (length fs ≡ suc (length gs) → ⊥) → lock_beyond p fs gs ≡ None
beyond_none p [] gs ne = refl
beyond_none p (f ∷ below) gs ne = by (length below == length gs) refl
  where
    by : (b : Bool) → (length below == length gs) ≡ b → (if b then lock_in f.stage (running_method p f) f.lock else None) ≡ None
    by true e = let same : length below ≡ length gs = eqb-true (length below) (length gs) e in absurd (ne (omega arith))
    by false e = refl

pub beyond_one : (p : Linked) (f : FrameState) (below gs : List FrameState) → length below ≡ length gs → lock_beyond p (f ∷ below) gs ≡ lock_in f.stage (running_method p f) f.lock
beyond_one p f below gs same = ap (λ (b : Bool). if b then lock_in f.stage (running_method p f) f.lock else None) (eq-eqb (length below) (length gs) same)

pub fits_by : (e : Moment) (a b : Option Lock) (after : Kept) → pushed_lock e after ≡ a → dropped_lock e after ≡ b → Moved e a b after → Fits e after
fits_by e a b after pushed dropped h =
    subst (λ (x : Option Lock). Moved e x (dropped_lock e after) after) (sym pushed) (subst (λ (x : Option Lock). Moved e a x after) (sym dropped) h)

pub level_fits : (e : Moment) (s : Kept) → Still e (level e) s → Fits e s
level_fits e s h =
    let same = h.frames in
    fits_by e None None s
    (beyond_none e.program (thread_at s.guest e.thread).frames (thread_of e).frames (λ x. omega arith))
    (beyond_none e.program (thread_of e).frames (thread_at s.guest e.thread).frames (λ x. omega arith))
    (moved_by e None None s h tt tt)

pub frames_are : (fs : List FrameState) → 0 < length fs → fs ≡ first_frame fs ∷ rest_of fs
frames_are [] lt = absurd (omega arith)
frames_are (f ∷ fs) lt = refl

pub rest_shorter : (fs : List FrameState) → 0 < length fs → length fs ≡ suc (length (rest_of fs))
rest_shorter [] lt = absurd (omega arith)
rest_shorter (f ∷ fs) lt = refl

pub all_there : (e : Moment) (lock : Option Lock) → AllThere e lock → IfSome lock (λ l. IsThere e.before l)
all_there e None has = tt
all_there e (Some lock) has = is_there e lock has

pub left_some_still : (e : Moment) (n : ℕ) (lock : Option Lock) (d : Doing) → Still e (way n None None) d.state → AllThere e lock → owns_some e d lock ≡ true → Still e (way n None lock) (left_some lock d).state
left_some_still e n None d h has owned = h
left_some_still e n (Some lock) d h has owned = left_still e n lock d h has owned

owned_case : (e : Moment) (n : ℕ) (lock : Lock) (d : Doing) (b : Bool) → Still e (way n None None) d.state → HasMonitor e lock → owns e d lock ≡ b → Still e (way n None (Some lock)) (if b then left lock d else d).state
owned_case e n lock d true h has owned = left_still e n lock d h has owned
owned_case e n lock d false h has owned = unowned_still e n lock d h has owned

pub left_if_still : (e : Moment) (n : ℕ) (lock : Option Lock) (d : Doing) → Still e (way n None None) d.state → AllThere e lock → Still e (way n None lock) (left_if_owned e lock d).state
left_if_still e n None d h has = h
left_if_still e n (Some lock) d h has = owned_case e n lock d (owns e d lock) h has refl

pub done_still : (e : Moment) {w : Way} (stage : Stage) (d : Doing) → Still e w d.state → Still e w (class_done_by stage d).state
done_still e Plain d h = h
done_still e (Before c) d h = h
done_still e (Clinit c) d h = state_still e c Done d.state h

rest_same : (fs gs : List FrameState) → length fs ≡ length gs → length (rest_of fs) ≡ length (rest_of gs)
rest_same [] [] e = refl
rest_same [] (g ∷ gs) e = absurd (omega arith)
rest_same (f ∷ fs) [] e = absurd (omega arith)
rest_same (f ∷ fs) (g ∷ gs) e = omega arith

pub dropped_still : (e : Moment) {w : Way} (d : Doing) → w.frames ≡ length (thread_of e).frames → Still e w d.state → Still e (with_frames (length (rest_of (thread_of e).frames)) w) (dropped e d).state
dropped_still e {w = w} d count h =
    let t : ThreadState = thread_at d.state.guest e.thread in
    let was : FineThread d.state.heap t = still_thread e d.state h in
    let now : FineThread d.state.heap (without_top t) = record { frames = rest_fine d.state.heap t.frames was.frames; pending = was.pending; entry = was.entry; object = was.object } in
    counted e (length (rest_of (thread_of e).frames)) (dropped e d).state (rest_same t.frames (thread_of e).frames (h.frames ∙ count)) (thread_still e (without_top t) d.state h now)

-- the lock of its frame is the one that is entered
pub same_lock : (p : Linked) (m : ℕ) (vs : List Value) → lock_for (method_at p m) (lock_slot p m vs) ≡ lock_for (method_at p m) (receiver_of p m vs)
same_lock p m vs = by (has (method_at p m).flags SYNCHRONIZED)
  where
    by : (sync : Bool) → (if sync then (if has (method_at p m).flags STATIC then Some (OfClass (method_at p m).class) else option_map (λ o. OfObject o) (if sync then receiver_of p m vs else None)) else None)
        ≡ (if sync then (if has (method_at p m).flags STATIC then Some (OfClass (method_at p m).class) else option_map (λ o. OfObject o) (receiver_of p m vs)) else None)
    by true = refl
    by false = refl

abbrev pub MayGo : Moment → Option Lock → Type 0
MayGo e lock = IfSome lock (λ l. IsThere e.before l × (may_enter e (begins e) l ≡ true))

pub may_first : (e : Moment) (lock : Lock) (d : Doing) → Still e (level e) d.state → HasMonitor e lock → may_enter e d lock ≡ true → may_enter e (begins e) lock ≡ true
may_first e lock d h has may =
    let same : monitor_of (begins e) lock ≡ monitor_of d lock = first_monitor e lock ∙ sym (monitor_same d lock ∙ h.changes.monitor lock (is_there e lock has)) in
    ap (λ (m : Monitor). is_open_to e.thread m.owner) same ∙ may

pub may_go : (e : Moment) (lock : Option Lock) (d : Doing) → Still e (level e) d.state → AllThere e lock → may_enter_some e d lock ≡ true → MayGo e lock
may_go e None d h has may = tt
may_go e (Some lock) d h has may = (is_there e lock has, may_first e lock d h has may)

pub entered_some_still : (e : Moment) (n : ℕ) (lock : Option Lock) (d : Doing) → Still e (way n None None) d.state → AllThere e lock → Still e (way n lock None) (entered_some e lock d).state
entered_some_still e n None d h has = h
entered_some_still e n (Some lock) d h has = entered_still e n lock d h has
