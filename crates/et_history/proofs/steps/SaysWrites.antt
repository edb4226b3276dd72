-- What an event writes: its U records tell each write of a reference, and no other.
use Rattle.std.proofs.Common.{◌≡◌, ℕ, ◌<◌, ◌+◌, List, length, set, Option, Some, None, true, refl, sym, ◌∙◌, ap, subst, inl, inr, arith, Contains, get_or-set_same}
use Rattle.std.specs.Prelude.{codes, is_some, slice_index_or, unwrap_or}
use Rattle.std.proofs.lemmas.Bool.{cases_eq}
use Rattle.std.proofs.lemmas.List.{length-set, get_or-set_other}
use Rattle.et_base.proofs.Lists.{Contains-here}
use Rattle.et_base.specs.declared.value.Value.{Value}
use Rattle.et_base.specs.declared.value.Value.TheVariants.{Unset}
use Rattle.et_heap.specs.declared.monitor.Monitor.{Monitor}
use Rattle.et_heap.specs.Objects.{IsHeld, ObjectState, object_at, slot_of, with_object_at, with_queue, with_referent, with_slot}
use Rattle.et_program.specs.Entries.{Linked, class_at, method_at}
use Rattle.et_state.specs.declared.records.Record.TheVariants.{Enter, Exit, Unwind}
use Rattle.et_state.specs.declared.stage.Stage.{Stage}
use Rattle.et_state.specs.declared.stage.Stage.TheVariants.{Plain, Before, Clinit}
use Rattle.et_state.specs.Interned.{object_of}
use Rattle.et_state.specs.Outcome.{Outcome}
use Rattle.et_state.specs.Outcome as outcome
use Rattle.et_state.specs.State.{Kept}
use Rattle.et_state.specs.Threads.{entered_by, in_clinit, rest_of}
use Rattle.et_state.specs.Words.{IsUnended, static_at, thread_at, with_static, with_string}
use Rattle.et_state.proofs.UnderWay.{waiting_pair}
use Rattle.et_event.specs.Calls.{class_done_by}
use Rattle.et_event.specs.Errors.{class_called}
use Rattle.et_event.specs.Event.{event}
use Rattle.et_event.specs.Frames.{frames_after_return, method_frame, receiver_of}
use Rattle.et_event.specs.Moments.{Doing, Moment, begins, array_size, current_frame, doing_with_guest, element_width, instance_made, next_object, slot_written, static_written, thread_of, with_frame, with_thread_state}
use Rattle.et_event.specs.Monitors.{Lock, OfClass, OfObject, entered, entered_some, left, left_once, left_some, lock_for, monitor_of, owns, with_monitor_of}
use Rattle.et_event.specs.Runnable.{IsRunnable}
use Rattle.et_event.specs.Sound.{IsSoundFor, is_of_kind}
use Rattle.et_event.specs.Strings.{interned}
use Rattle.et_event.specs.Throw.{dropped, left_if_owned}
use Rattle.et_event.proofs.Values.{updated_state}
use Rattle.et_history.proofs.soundness.Outcomes.{if_case}
use Rattle.et_history.specs.steps.Records.{HasPlainStrings}
use Rattle.et_history.specs.steps.Steps.{AllObjects, AllThere, Begins, BeginsClass, Catches, ClassBecomes, Comes, CountsEntered, Drops, Ends, EntersClinit, EntersCode, EntersMonitor, GoesOn, Interns, IsTyped, Leads, LeavesMonitor, Level, MakesArray, MakesInstance, MayTell, MayWrite, Pends, Phase, Polls, Returns, SetsQueue, SetsReferent, Starts, Unwinds, UnwindsClinit, WritesSlot, WritesStatic, kind_of_static, own_lock}
use Rattle.et_history.specs.steps.Writes.{HasCause, TellsWrites, reference_at}
use Rattle.et_history.proofs.steps.Folding.{MadeOf, comes_so}
use Rattle.et_history.proofs.steps.Held.{Ready}
use Rattle.et_history.proofs.steps.Typed.{reference_or_none}
use Rattle.et_history.proofs.steps.Recording.{HasLock, Told}
use Rattle.et_history.proofs.steps.SaysRecords.{records_come, still_there, under}
use Rattle.et_history.proofs.steps.Turns.{event_leads}
use Rattle.et_history.proofs.steps.Writing.{TellsSo, first_taken_writes, made_writes, monitor_writes, object_writes, record_writes, slot_writes, static_writes}

-- STATICS hold values of their types
record AreTyped (p : Linked) (statics : List Value) : Type 0 where
  count : length statics ≡ length p.statics
  typed : (i : ℕ) → i < length p.statics → is_of_kind (kind_of_static p i) (slice_index_or statics i Unset) ≡ true

one_typed : (p : Linked) (statics : List Value) (i : ℕ) (v : Value) → AreTyped p statics → IsTyped (kind_of_static p i) v → i < length p.statics → AreTyped p (set statics i v)
one_typed p statics i v h t lt =
    let count = h.count in
    let inside : i < length statics = omega (arith, count, lt) in
    record {
      count = length-set statics i v ∙ h.count;
      typed = λ j within. elim (cases_eq j i) [
        | inl e ↦
            subst (λ (k : ℕ). is_of_kind (kind_of_static p k) (slice_index_or (set statics i v) k Unset) ≡ true) (sym e)
            (subst (λ (w : Value). is_of_kind (kind_of_static p i) w ≡ true) (sym (get_or-set_same statics i v Unset inside)) t.kind)
        | inr ne ↦ subst (λ (w : Value). is_of_kind (kind_of_static p j) w ≡ true) (sym (get_or-set_other statics i j v Unset ne)) (h.typed j within)
      ];
    }

-- an event so far
record WritesSo (e : Moment) (d : Doing) : Type 0 where
  statics : AreTyped e.program d.state.guest.statics
  tells : TellsSo e d

-- .. with the statics as before
so_far : (e : Moment) (d x : Doing) → WritesSo e d → x.state.guest.statics ≡ d.state.guest.statics → TellsSo e x → WritesSo e x
so_far e d x h same tells = record { statics = subst (λ (vs : List Value). AreTyped e.program vs) (sym same) h.statics; tells = tells }

-- MONITORS

lock_writes : (e : Moment) (lock : Lock) (m : Monitor) (d : Doing) → WritesSo e d → HasLock d lock → WritesSo e (with_monitor_of lock m d)
lock_writes e (OfObject o) m d h held = record { statics = h.statics; tells = monitor_writes e (OfObject o) m d h.tells held }
lock_writes e (OfClass c) m d h held = record { statics = h.statics; tells = monitor_writes e (OfClass c) m d h.tells held }

entered_writes : (e : Moment) (lock : Lock) (d : Doing) → WritesSo e d → HasLock d lock → WritesSo e (entered e lock d)
entered_writes e lock d h held = lock_writes e lock (record { owner = Some e.thread; count = (monitor_of d lock).count + 1 }) d h held

left_writes : (e : Moment) (lock : Lock) (d : Doing) → WritesSo e d → HasLock d lock → WritesSo e (left lock d)
left_writes e lock d h held = lock_writes e lock (left_once (monitor_of d lock)) d h held

some_entered : (e : Moment) (lock : Option Lock) (d : Doing) → WritesSo e d → Told e d → AllThere e lock → WritesSo e (entered_some e lock d)
some_entered e None d h told has = h
some_entered e (Some lock) d h told has = entered_writes e lock d h (still_there e lock d told has)

some_left : (e : Moment) (lock : Option Lock) (d : Doing) → WritesSo e d → Told e d → AllThere e lock → WritesSo e (left_some lock d)
some_left e None d h told has = h
some_left e (Some lock) d h told has = left_writes e lock d h (still_there e lock d told has)

owned_left : (e : Moment) (lock : Option Lock) (d : Doing) → WritesSo e d → Told e d → AllThere e lock → WritesSo e (left_if_owned e lock d)
owned_left e None d h told has = h
owned_left e (Some lock) d h told has = if_case (λ (x : Doing). WritesSo e x) (owns e d lock) (left lock d) d (left_writes e lock d h (still_there e lock d told has)) h

-- OTHER WORDS

class_done : (e : Moment) (stage : Stage) (d : Doing) → WritesSo e d → WritesSo e (class_done_by stage d)
class_done e Plain d h = h
class_done e (Before c) d h = h
class_done e (Clinit c) d h = record { statics = h.statics; tells = h.tells }

instance_writes : (e : Moment) (class : ℕ) (d : Doing) → WritesSo e d → WritesSo e (instance_made e class d)
instance_writes e class d h = record { statics = h.statics; tells = made_writes e class 0 (class_at e.program class).info.slots _ d h.tells }

interned_writes : (e : Moment) (bytes : List ℕ) (d : Doing) → WritesSo e d → WritesSo e (interned e bytes d)
interned_writes e bytes d h =
    let x : Doing = instance_made e (class_called e.program (codes "java/lang/String")) d in
    let there : WritesSo e x = instance_writes e (class_called e.program (codes "java/lang/String")) d h in
    if_case (λ (y : Doing). WritesSo e y) (is_some (object_of d.state.guest.interned bytes)) d (doing_with_guest (with_string x.state.guest bytes (next_object d)) x) h (record { statics = there.statics; tells = there.tells })

-- WRITES

-- the object 0 is none
no_first : (e : Moment) (o : ℕ) (d : Doing) → Told e d → IsHeld d.state.heap o → o ≡ 0 → ⊥
no_first e o d told held same = told.sound.none (subst (λ (k : ℕ). IsHeld d.state.heap k) same held)

one_slot : (e : Moment) (o i : ℕ) (v : Value) (d : Doing) → HasCause e.program → WritesSo e d → Told e d → IsHeld d.state.heap o → MayTell e d.state.heap o i v → WritesSo e (slot_written e o i v d)
one_slot e o i v d cause h told held may =
    let x : ObjectState = object_at d.state.heap o in
    let next : Doing = record { state = record { heap = with_object_at d.state.heap o (with_slot i v x); guest = d.state.guest }; records = d.records } in
    so_far e d (slot_written e o i v d) h (ap (λ (s : Kept). s.guest.statics) (updated_state e o i (slot_of x i) v next)) (slot_writes e o i v d h.tells held (no_first e o d told held) (may.slot cause) may.plain)

one_static : (e : Moment) (i : ℕ) (v : Value) (d : Doing) → WritesSo e d → i < length e.program.statics → IsTyped (kind_of_static e.program i) v → WritesSo e (static_written e i v d)
one_static e i v d h lt typed =
    let next : Doing = doing_with_guest (with_static d.state.guest i v) d in
    let count = h.statics.count in
    let old : Value = static_at d.state.guest i in
    record {
      statics = subst (λ (vs : List Value). AreTyped e.program vs) (sym (ap (λ (s : Kept). s.guest.statics) (updated_state e 0 i old v next))) (one_typed e.program d.state.guest.statics i v h.statics typed lt);
      tells = static_writes e i v d h.tells (omega (arith, count, lt)) (reference_or_none (kind_of_static e.program i) v old typed (h.statics.typed i lt));
    }

module _ (e : Moment) (ready : Ready e) (strings : HasPlainStrings e.program) (cause : HasCause e.program) where
  first : WritesSo e (begins e)
  first = record { statics = record { count = ready.knows.sound.statics.0; typed = λ i lt. (ready.knows.sound.statics.1 i lt).value }; tells = λ o i. refl }

  told_by : (ph : Phase) (d : Doing) → Comes e AllObjects ph d → Told e d
  told_by ph d h = records_come e ready strings ph d h

  began : Told e (begins e)
  began = told_by Level (begins e) Begins

  writes_come : (ph : Phase) (d : Doing) → Comes e AllObjects ph d → WritesSo e d
  writes_come ph d Begins = first
  writes_come ph d (GoesOn f x h framed a) = let g : WritesSo e x = writes_come Level x h in record { statics = g.statics; tells = g.tells }
  writes_come ph d (EntersCode m body arguments x h is f has may) =
      let receiver : Option ℕ = receiver_of e.program m arguments in
      let lock : Option Lock = lock_for (method_at e.program m) receiver in
      let y : Doing = entered_some e lock x in
      let g : WritesSo e y = some_entered e lock x (writes_come Level x h) (told_by Level x h) has in
      let z : Doing = with_thread_state e (entered_by (method_frame e.program m body arguments) (thread_at y.state.guest e.thread)) y in
      record { statics = g.statics; tells = record_writes e (Enter y.state.guest.clock e.thread m (unwrap_or receiver 0)) z tt g.tells }
  writes_come ph d (EntersClinit m body x h framed is fine) =
      let g : WritesSo e x = writes_come Level x h in
      record { statics = g.statics; tells = record_writes e (Enter x.state.guest.clock e.thread m 0) (with_frame e (in_clinit m body.max_stack body.max_locals (current_frame e)) x) tt g.tells }
  writes_come ph d (BeginsClass c x h) = let g : WritesSo e x = writes_come Level x h in record { statics = g.statics; tells = g.tells }
  writes_come ph d (Returns values framed is f has owned) =
      let stage : Stage = (current_frame e).stage in
      let x : Doing = class_done_by stage (left_some (own_lock e) (begins e)) in
      let g : WritesSo e x = class_done e stage (left_some (own_lock e) (begins e)) (some_left e (own_lock e) (begins e) first began has) in
      let z : Doing = with_thread_state e (record (thread_of e) { frames = frames_after_return e.program stage values (rest_of (thread_of e).frames) }) x in
      record { statics = g.statics; tells = record_writes e (Exit x.state.guest.clock e.thread (unwrap_or (current_frame e).method 0)) z tt g.tells }
  writes_come ph d (Unwinds o framed is held has) =
      let x : Doing = left_if_owned e (own_lock e) (begins e) in
      let g : WritesSo e x = owned_left e (own_lock e) (begins e) first began has in
      record { statics = g.statics; tells = record_writes e (Unwind (begins e).state.guest.clock e.thread (unwrap_or (current_frame e).method 0) o) (dropped e x) tt g.tells }
  writes_come ph d (UnwindsClinit o framed is held none) =
      record { statics = first.statics; tells = record_writes e (Unwind (begins e).state.guest.clock e.thread (unwrap_or (current_frame e).method 0) o) (dropped e (begins e)) tt first.tells }
  writes_come ph d (Drops x h framed none) = let g : WritesSo e x = writes_come Level x h in record { statics = g.statics; tells = g.tells }
  writes_come ph d (Catches o handler framed held) = record { statics = first.statics; tells = first.tells }
  writes_come ph d (CountsEntered x h) = let g : WritesSo e x = writes_come Level x h in record { statics = g.statics; tells = g.tells }
  writes_come ph d (Pends q o x h a) = let g : WritesSo e x = writes_come q x h in record { statics = g.statics; tells = g.tells }
  writes_come ph d (Starts o x h a) = let g : WritesSo e x = writes_come Level x h in record { statics = g.statics; tells = g.tells }
  writes_come ph d Ends = record { statics = first.statics; tells = first.tells }
  writes_come ph d (ClassBecomes q c y x h) = let g : WritesSo e x = writes_come q x h in record { statics = g.statics; tells = g.tells }
  writes_come ph d (WritesStatic i v x h lt a typed other) = one_static e i v x (writes_come Level x h) lt typed
  writes_come ph d (Interns bytes x h) = interned_writes e bytes x (writes_come Level x h)
  writes_come ph d (MakesInstance q class x makes h lt plain) = instance_writes e class x (writes_come q x h)
  writes_come ph d (MakesArray class n x makes h array) =
      let g : WritesSo e x = writes_come Level x h in
      record { statics = g.statics; tells = made_writes e class n n (array_size n (element_width (class_at e.program class).info.element)) x g.tells }
  writes_come ph d (WritesSlot q o i v x h a tells) =
      let told : Told e x = told_by q x h in
      let may : MayWrite x.state.heap o i v = a (under e x told) in
      one_slot e o i v x cause (writes_come q x h) told may.held tells
  writes_come ph d (EntersMonitor o x h at held) = entered_writes e (OfObject o) x (writes_come Level x h) ((told_by Level x h).steady.stays o held)
  writes_come ph d (LeavesMonitor o x h at held) = left_writes e (OfObject o) x (writes_come Level x h) ((told_by Level x h).steady.stays o held)
  writes_come ph d (SetsReferent o r x h a) =
      let g : WritesSo e x = writes_come Level x h in
      record { statics = g.statics; tells = object_writes e o (with_referent r (object_at x.state.heap o)) x g.tells (a (under e x (told_by Level x h))).0 refl }
  writes_come ph d (SetsQueue o q x h a) =
      let g : WritesSo e x = writes_come Level x h in
      record { statics = g.statics; tells = object_writes e o (with_queue q (object_at x.state.heap o)) x g.tells (a (under e x (told_by Level x h))).0 refl }
  writes_come ph d (Polls q x h a) =
      let g : WritesSo e x = writes_come Level x h in
      let told : Told e x = told_by Level x h in
      record {
        statics = g.statics;
        tells = first_taken_writes e q x g.tells (a (under e x told)) (λ r more is.
            told.sound.slots q r (waiting_pair x.state.heap q r (subst (λ (os : List ℕ). Contains os r) (sym is) (Contains-here r more))));
      }

  pub by_writes : (o : Outcome Kept) → Leads e o → TellsWrites e.before o
  by_writes (outcome.Goes next records) h =
      let d : Doing = record { state = next; records = records } in
      let made : MadeOf e ready d = comes_so e ready d h in
      (writes_come made.phase d made.comes).tells
  by_writes (outcome.Waits next) h = λ o i. ap (λ (s : Kept). reference_at s o i) h
  by_writes (outcome.IllTyped method pc) h = tt
  by_writes outcome.ObjectLimit h = tt

pub event_tells_writes : (p : Linked) (s : Kept) (t : ℕ) → IsSoundFor p s → IsUnended s.guest t → IsRunnable p → HasPlainStrings p → HasCause p → TellsWrites s (event p s t)
event_tells_writes p s t sound unended may strings cause =
    let e : Moment = record { program = p; before = s; thread = t } in
    let ready : Ready e = record { knows = record { sound = sound; thread = unended; classes = may.owners }; may = may } in
    by_writes e ready strings cause (event p s t) (event_leads p s t sound unended may)
