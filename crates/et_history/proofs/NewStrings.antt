-- What an event has made so far are the objects of strings, on its way to its end. Each word keeps that but those that make
-- an instance or an array, and what they make the event puts into a root place.
use Rattle.std.proofs.Common.{◌≡◌, ℕ, ◌+◌, ◌<◌, ◌≤◌, false, List, [], ◌∷◌, ◌++◌, length, set, Option, Some, None, Contains, sym, subst, inl, inr, arith}
use Rattle.std.specs.Prelude.{is_some, fold}
use Rattle.std.proofs.lemmas.Bool.{cases_lt}
use Rattle.std.proofs.lemmas.List.{length-set, length-append, length_push, map-append}
use Rattle.std.proofs.lemmas.List.Elements.{Contains-append_left, Contains-append_right}
use Rattle.et_base.specs.declared.value.Value.{Value}
use Rattle.et_base.specs.declared.value.Value.TheVariants.{Int, Long, Ref}
use Rattle.et_base.proofs.Lists.{Contains-here}
use Rattle.et_program.specs.Entries.{class_at, field_at}
use Rattle.et_program.specs.declared.info.FieldInfo.{FieldInfo}
use Rattle.et_heap.specs.declared.monitor.Monitor.{Monitor}
use Rattle.et_heap.specs.Objects.{ObjectState, object_at, slot_of, with_slot, with_referent, with_monitor, with_object_at, with_queue}
use Rattle.et_state.specs.Threads.{FrameState, ThreadState, new_thread, with_top_of}
use Rattle.et_state.specs.declared.class_state.ClassState.{ClassState}
use Rattle.et_state.specs.declared.class_state.ClassState.TheVariants.{Untouched, Begun, Done, Failed}
use Rattle.et_state.specs.Interned.{object_of, interned_objects}
use Rattle.et_state.specs.State.{Kept}
use Rattle.et_state.specs.Words.{thread_at, static_at, with_static}
use Rattle.et_event.specs.BuiltIns.{with_referent_of, with_thread_for, with_reference_made, with_first_taken}
use Rattle.et_event.specs.Initialization.{with_state, constant_set, field_set, constants_set, class_done, quietly_done, quietly_if_untouched, prepared, state_of}
use Rattle.et_event.specs.Kinds.{narrowed}
use Rattle.et_event.specs.Moments.{Moment, Doing, begins, doing_with_guest, with_thread_state, with_frame, next_object, slot_written, static_written}
use Rattle.et_event.specs.Monitors.{Lock, OfObject, OfClass, with_monitor_of}
use Rattle.et_event.specs.Sites.{LoadedConstant, AnInt, ALong, AString, constant_at, pool_of_class}
use Rattle.et_event.specs.Strings.{interned, string_object}
use Rattle.et_history.proofs.steps.Heaps.{newest}
use Rattle.et_history.proofs.steps.Words.{string_made, string_state}
use Rattle.et_heap.specs.Queues.{with_waits, without_first_waiting, take_first}
use Rattle.et_event.proofs.Values.{updated_state}
use Rattle.et_history.proofs.soundness.Outcomes.{if_case}

-- the thread was started, and each object that is new is that of a string
pub record OfStrings (e : Moment) (s : Kept) : Type 0 where
  pub thread : e.thread < length s.guest.threads
  pub strings : (o : ℕ) → length e.before.heap ≤ o → o < length s.heap → Contains (interned_objects s.guest.interned) o

pub first : (e : Moment) → e.thread < length e.before.guest.threads → OfStrings e (begins e).state
first e lt = record { thread = lt; strings = λ o le new. absurd (omega (arith, le, new)) }

-- THE GUEST

pub thread_strings : (e : Moment) (x : ThreadState) (d : Doing) → OfStrings e d.state → OfStrings e (with_thread_state e x d).state
thread_strings e x d h =
    let ts : List ThreadState = d.state.guest.threads in
    let len : length (set ts e.thread x) ≡ length ts = length-set ts e.thread x in
    let lt = h.thread in
    record { thread = omega arith; strings = h.strings }

pub top_strings : (e : Moment) (f : FrameState) (d : Doing) → OfStrings e d.state → OfStrings e (with_frame e f d).state
top_strings e f d h = thread_strings e (with_top_of (thread_at d.state.guest e.thread) f) d h

pub state_strings : (e : Moment) (c : ℕ) (x : ClassState) (d : Doing) → OfStrings e d.state → OfStrings e (with_state c x d).state
state_strings e c x d h = record { thread = h.thread; strings = h.strings }

pub started_strings : (e : Moment) (o : ℕ) (d : Doing) → OfStrings e d.state → OfStrings e (with_thread_for o d).state
started_strings e o d h =
    let ts : List ThreadState = d.state.guest.threads in
    let new : List ThreadState = new_thread None (Some o) ∷ [] in
    let len : length (ts ++ new) ≡ length ts + length new = length-append ts new in
    let lt = h.thread in
    record { thread = omega arith; strings = h.strings }

-- OBJECTS

object_strings : (e : Moment) (o : ℕ) (y : ObjectState) (s : Kept) → OfStrings e s → OfStrings e (record { heap = with_object_at s.heap o y; guest = s.guest })
object_strings e o y s h =
    let len : length (with_object_at s.heap o y) ≡ length s.heap = length-set s.heap o (Some y) in
    record { thread = h.thread; strings = λ k le lt. h.strings k le (omega (arith, len, lt)) }

pub slot_strings : (e : Moment) (o i : ℕ) (v : Value) (d : Doing) → OfStrings e d.state → OfStrings e (slot_written e o i v d).state
slot_strings e o i v d h =
    let x : ObjectState = object_at d.state.heap o in
    let next : Doing = record { state = record { heap = with_object_at d.state.heap o (with_slot i v x); guest = d.state.guest }; records = d.records } in
    subst (λ (s : Kept). OfStrings e s) (sym (updated_state e o i (slot_of x i) v next)) (object_strings e o (with_slot i v x) d.state h)

pub static_strings : (e : Moment) (i : ℕ) (v : Value) (d : Doing) → OfStrings e d.state → OfStrings e (static_written e i v d).state
static_strings e i v d h =
    let next : Doing = doing_with_guest (with_static d.state.guest i v) d in
    let so : OfStrings e next.state = record { thread = h.thread; strings = h.strings } in
    subst (λ (s : Kept). OfStrings e s) (sym (updated_state e 0 i (static_at d.state.guest i) v next)) so

pub referent_strings : (e : Moment) (o : ℕ) (r : Option ℕ) (d : Doing) → OfStrings e d.state → OfStrings e (with_referent_of o r d).state
referent_strings e o r d h = object_strings e o (with_referent r (object_at d.state.heap o)) d.state h

-- a weak reference is made, and a queue is polled
pub reference_strings : (e : Moment) (o : ℕ) (r q : Option ℕ) (d : Doing) → OfStrings e d.state → OfStrings e (with_reference_made o r q d).state
reference_strings e o r q d h =
    let x : Kept = (with_referent_of o r d).state in
    object_strings e o (with_queue q (object_at x.heap o)) x (referent_strings e o r d h)

taken_strings : (e : Moment) (q : ℕ) (ws : List ℕ) (s : Kept) → OfStrings e s → OfStrings e (record { heap = take_first ws q s.heap; guest = s.guest })
taken_strings e q [] s h = record { thread = h.thread; strings = h.strings }
taken_strings e q (r ∷ ws) s h =
    let first : Kept = record { heap = with_object_at s.heap q (without_first_waiting (object_at s.heap q)); guest = s.guest } in
    object_strings e r (with_waits false (object_at first.heap r)) first (object_strings e q (without_first_waiting (object_at s.heap q)) s h)

pub first_taken_strings : (e : Moment) (q : ℕ) (d : Doing) → OfStrings e d.state → OfStrings e (with_first_taken q d).state
first_taken_strings e q d h = taken_strings e q (object_at d.state.heap q).waiting d.state h

pub monitor_strings : (e : Moment) (lock : Lock) (m : Monitor) (d : Doing) → OfStrings e d.state → OfStrings e (with_monitor_of lock m d).state
monitor_strings e (OfObject o) m d h = object_strings e o (with_monitor m (object_at d.state.heap o)) d.state h
monitor_strings e (OfClass c) m d h = record { thread = h.thread; strings = h.strings }

-- STRINGS OF CONSTANTS

pub interned_strings : (e : Moment) (bytes : List ℕ) (d : Doing) → OfStrings e d.state → OfStrings e (interned e bytes d).state
interned_strings e bytes d h = if_case (λ (u : Doing). OfStrings e u.state) (is_some (object_of d.state.guest.interned bytes)) d (string_made e bytes d) h made
  where
    n : ℕ
    n = next_object d

    objects : interned_objects (d.state.guest.interned ++ (bytes, n) ∷ []) ≡ interned_objects d.state.guest.interned ++ n ∷ []
    objects = map-append (λ p. p.1) d.state.guest.interned ((bytes, n) ∷ [])

    all : (o : ℕ) → length e.before.heap ≤ o → o < length (d.state.heap ++ Some (string_state e) ∷ []) → Contains (interned_objects d.state.guest.interned ++ n ∷ []) o
    all o le lt = elim (cases_lt o (length d.state.heap)) [
      | inl old ↦ Contains-append_left (interned_objects d.state.guest.interned) (n ∷ []) o (h.strings o le old)
      | inr new ↦
          subst (λ (k : ℕ). Contains (interned_objects d.state.guest.interned ++ n ∷ []) k) (newest (length_push d.state.heap (Some (string_state e))) new lt)
          (Contains-append_right (interned_objects d.state.guest.interned) (n ∷ []) n (Contains-here n []))
    ]

    made : OfStrings e (string_made e bytes d).state
    made = record { thread = h.thread; strings = λ o le lt. subst (λ (os : List ℕ). Contains os o) (sym objects) (all o le lt) }

-- INITIALIZATION

fold_strings : {A : Type 0} (e : Moment) (f : Doing → A → Doing) → ((x : Doing) (a : A) → OfStrings e x.state → OfStrings e (f x a).state) → (xs : List A) (d : Doing) → OfStrings e d.state → OfStrings e (fold f d xs).state
fold_strings e f step [] d h = h
fold_strings e f step (a ∷ xs) d h = fold_strings e f step xs (f d a) (step d a h)

constant_strings : (e : Moment) (f : FieldInfo) (k : Option LoadedConstant) (d : Doing) → OfStrings e d.state → OfStrings e (constant_set e f k d).state
constant_strings e f None d h = h
constant_strings e f (Some (AnInt n)) d h = static_strings e f.slot (narrowed f.descriptor (Int n)) d h
constant_strings e f (Some (ALong n)) d h = static_strings e f.slot (Long n) d h
constant_strings e f (Some (AString bytes)) d h =
    let x : Doing = interned e bytes d in
    static_strings e f.slot (Ref (string_object bytes x)) x (interned_strings e bytes d h)

pub constants_strings : (e : Moment) (c : ℕ) (d : Doing) → OfStrings e d.state → OfStrings e (constants_set e c d).state
constants_strings e c d h =
    fold_strings e (field_set e) (λ x f g. constant_strings e (field_at e.program f) (constant_at (pool_of_class e.program (field_at e.program f).class) (field_at e.program f).constant) x g) (class_at e.program c).info.constants d h

class_done_strings : (e : Moment) (c : ℕ) (x : ClassState) (d : Doing) → OfStrings e d.state → OfStrings e (class_done e c x d).state
class_done_strings e c Untouched d h = constants_strings e c (with_state c Done d) (state_strings e c Done d h)
class_done_strings e c (Begun t) d h = h
class_done_strings e c Done d h = h
class_done_strings e c Failed d h = h

pub quietly_strings : (e : Moment) (c : ℕ) (d : Doing) → OfStrings e d.state → OfStrings e (quietly_done e c d).state
quietly_strings e c d h = fold_strings e (λ x k. class_done e k (state_of x k) x) (λ x k g. class_done_strings e k (state_of x k) x g) (class_at e.program c).init_order d h

if_untouched_strings : (e : Moment) (c : ℕ) (x : ClassState) (d : Doing) → OfStrings e d.state → OfStrings e (quietly_if_untouched e c x d).state
if_untouched_strings e c Untouched d h = quietly_strings e c d h
if_untouched_strings e c (Begun t) d h = h
if_untouched_strings e c Done d h = h
if_untouched_strings e c Failed d h = h

pub prepared_strings : (e : Moment) (classes : List ℕ) (d : Doing) → OfStrings e d.state → OfStrings e (prepared e classes d).state
prepared_strings e classes d h = fold_strings e (λ x k. quietly_if_untouched e k (state_of x k) x) (λ x k g. if_untouched_strings e k (state_of x k) x g) classes d h
