-- How an event goes on and ends, and that each object that it made is reached then.
use Rattle.std.proofs.Common.{◌≡◌, ℕ, ◌+◌, ◌<◌, ◌==◌, Bool, true, false, ltb, List, [], ◌∷◌, length, set, Option, Some, None, Result, Ok, Err, Contains, refl, sym, subst, inl, inr, arith}
use Rattle.std.specs.Prelude.{ℤ, option_to_list}
use Rattle.std.proofs.lemmas.Bool.{cases_lt}
use Rattle.std.proofs.lemmas.List.{length-set, length_push}
use Rattle.et_base.specs.declared.value.Value.{Value}
use Rattle.et_base.specs.declared.value.Value.TheVariants.{Int, Long, LongHigh, Null, Ref}
use Rattle.et_base.proofs.Lists.{Contains-here}
use Rattle.et_graph.specs.Graph.{IsReached}
use Rattle.et_program.specs.Entries.{class_at}
use Rattle.et_program.specs.declared.errors.LinkError.{LinkError}
use Rattle.et_heap.specs.Objects.{ObjectState, new_object, referent_value}
use Rattle.et_state.specs.Threads.{ThreadState, most_frames, has_frame, as_entered, entered_by, with_pending}
use Rattle.et_state.specs.declared.class_state.ClassState.{ClassState}
use Rattle.et_state.specs.declared.class_state.ClassState.TheVariants.{Untouched, Begun, Done, Failed}
use Rattle.et_state.specs.Interned.{interned_objects}
use Rattle.et_state.specs.Roots.{graph_of}
use Rattle.et_state.specs.State.{Kept}
use Rattle.et_state.specs.Words.{thread_at}
use Rattle.et_state.specs.Outcome.{Outcome}
use Rattle.et_state.specs.Outcome as outcome
use Rattle.et_state.proofs.Places.{string_root, pending_root}
use Rattle.et_state.proofs.UnderWay.{root_is_reached}
use Rattle.et_event.specs.declared.errors.GuestError.{GuestError}
use Rattle.et_event.specs.declared.errors.GuestError.TheVariants.{NullPointerException, StackOverflowError, NoClassDefFoundError}
use Rattle.et_event.specs.PoolOperands.Operand.{Operand}
use Rattle.et_event.specs.PoolOperands.Operand.TheVariants as operand
use Rattle.et_event.specs.Checks.{Reference, with_int, with_long, with_reference, with_value, ill_typed_unless, resolved, throws_unless, not_null, waits_unless, frame_fits}
use Rattle.et_event.specs.Errors.{error_class, error_of}
use Rattle.et_event.specs.Initialization.{state_of, with_state, constants_set, initializer_frame, is_quiet, quietly_done, begun_by, begins_class, needed, initialized}
use Rattle.et_event.specs.Moments.{Moment, Doing, next_object, instance_made, with_thread_state, pending_now, fits_heap, goes, ends_event, throws, waits}
use Rattle.et_history.specs.Reaching.{AreReachedFrom, ReachesNew}
use Rattle.et_history.proofs.steps.Heaps.{newest}
use Rattle.et_history.proofs.steps.Words.{thread_now}
use Rattle.et_history.proofs.NewStrings.{OfStrings, thread_strings, state_strings, constants_strings, quietly_strings}
use Rattle.et_history.proofs.soundness.Outcomes.{if_case}

abbrev pub New : Moment → Outcome Kept → Type 0
New e x = ReachesNew e.before x

-- WHAT IS REACHED

-- the objects that are new by now are interned, and those of a state to which that leads are reached
pub reached_beyond : (e : Moment) (s x : Kept) → OfStrings e s → x.guest.interned ≡ s.guest.interned → AreReachedFrom (length s.heap) x → AreReachedFrom (length e.before.heap) x
reached_beyond e s x h same new o le lt =
    elim (cases_lt o (length s.heap)) [
      | inl old ↦ root_is_reached x o (string_root x.guest o (subst (λ (ss : List (List ℕ × ℕ)). Contains (interned_objects ss) o) (sym same) (h.strings o le old)))
      | inr beyond ↦ new o beyond lt
    ]

pub strings_reached : (e : Moment) (s : Kept) → OfStrings e s → AreReachedFrom (length e.before.heap) s
strings_reached e s h o le lt = root_is_reached s o (string_root s.guest o (h.strings o le lt))

-- .. one object more
pub one_reached : (n : ℕ) (x : Kept) → length x.heap ≡ n + 1 → IsReached (graph_of x) n → AreReachedFrom n x
one_reached n x len r o le lt = subst (λ (k : ℕ). IsReached (graph_of x) k) (newest len le lt) r

-- what is pending is
pub pending_reached : (e : Moment) (o : ℕ) (d : Doing) → e.thread < length d.state.guest.threads → IsReached (graph_of (pending_now e o d).state) o
pending_reached e o d lt =
    let x : ThreadState = with_pending (Some o) (thread_at d.state.guest e.thread) in
    let z : Kept = (pending_now e o d).state in
    let ts : List ThreadState = d.state.guest.threads in
    let len : length (set ts e.thread x) ≡ length ts = length-set ts e.thread x in
    let within : e.thread < length z.guest.threads = omega arith in
    let now : thread_at z.guest e.thread ≡ x = thread_now d.state e.thread x lt in
    root_is_reached z o (pending_root z.guest e.thread o within (subst (λ (t : ThreadState). Contains (option_to_list t.pending) o) (sym now) (Contains-here o [])))

-- ENDS

pub goes_new : (e : Moment) (d : Doing) → OfStrings e d.state → New e (goes d)
goes_new e d h = strings_reached e d.state h

pub ends_reached : (e : Moment) (d : Doing) → AreReachedFrom (length e.before.heap) d.state → New e (ends_event d)
ends_reached e d h = if_case (New e) (fits_heap d.state.heap) (outcome.Goes d.state d.records) outcome.ObjectLimit h tt

pub ends_new : (e : Moment) (d : Doing) → OfStrings e d.state → New e (ends_event d)
ends_new e d h = ends_reached e d (strings_reached e d.state h)

thrown_new : (e : Moment) (class : ℕ) (d : Doing) → OfStrings e d.state → New e (ends_event (pending_now e (next_object d) (instance_made e class d)))
thrown_new e class d h =
    let object : ObjectState = new_object class 0 (class_at e.program class).info.slots in
    let y : Doing = instance_made e class d in
    let z : Doing = pending_now e (next_object d) y in
    ends_reached e z
    (reached_beyond e d.state z.state h refl (one_reached (length d.state.heap) z.state (length_push d.state.heap (Some object)) (pending_reached e (next_object d) y h.thread)))

pub throws_new : (e : Moment) (error : GuestError) (d : Doing) → OfStrings e d.state → New e (throws e error d)
throws_new e error d h =
    let class : ℕ = error_class e.program error in
    let x : ThreadState = as_entered (thread_at d.state.guest e.thread) in
    if_case (λ (u : Doing). New e (ends_event (pending_now e (next_object d) (instance_made e class u)))) (has_frame (thread_at d.state.guest e.thread).frames) d (with_thread_state e x d)
    (thrown_new e class d h) (thrown_new e class (with_thread_state e x d) (thread_strings e x d h))

-- WHAT REFUSES

pub unless_ill_typed : (e : Moment) (b : Bool) (go : Outcome Kept) → New e go → New e (ill_typed_unless e b go)
unless_ill_typed e true go h = h
unless_ill_typed e false go h = tt

pub unless_thrown : (e : Moment) (d : Doing) (error : GuestError) (b : Bool) (go : Outcome Kept) → OfStrings e d.state → New e go → New e (throws_unless e d error b go)
unless_thrown e d error true go h g = g
unless_thrown e d error false go h g = throws_new e error d h

pub where_resolved : (e : Moment) (d : Doing) (answer : Result ℕ LinkError) (go : ℕ → Outcome Kept) → OfStrings e d.state → ((member : ℕ) → New e (go member)) → New e (resolved e d answer go)
where_resolved e d (Ok member) go h g = g member
where_resolved e d (Err error) go h g = throws_new e (error_of error) d h

pub where_not_null : (e : Moment) (d : Doing) (r : Reference) (go : ℕ → Outcome Kept) → OfStrings e d.state → ((o : ℕ) → New e (go o)) → New e (not_null e d r go)
where_not_null e d None go h g = throws_new e NullPointerException d h
where_not_null e d (Some o) go h g = g o

pub unless_waiting : (e : Moment) (b : Bool) (go : Outcome Kept) → New e go → New e (waits_unless e b go)
unless_waiting e true go g = g
unless_waiting e false go g = refl

pub where_frame_fits : (e : Moment) (d : Doing) (go : Outcome Kept) → OfStrings e d.state → New e go → New e (frame_fits e d go)
where_frame_fits e d go h g = unless_thrown e d StackOverflowError (ltb (length (thread_at d.state.guest e.thread).frames) most_frames) go h g

-- A CLASS IS NEEDED

begins_class_new : (e : Moment) (c : ℕ) (d : Doing) → OfStrings e d.state → New e (begins_class e c d)
begins_class_new e c d h =
    let x : Doing = constants_set e c (with_state c (Begun e.thread) d) in
    let there : OfStrings e x.state = constants_strings e c (with_state c (Begun e.thread) d) (state_strings e c (Begun e.thread) d h) in
    let t : ThreadState = entered_by (initializer_frame c) (thread_at x.state.guest e.thread) in
    where_frame_fits e d (ends_event (begun_by e c d)) h (ends_new e (begun_by e c d) (thread_strings e t x there))

needed_new : (e : Moment) (d : Doing) (c : ℕ) (x : ClassState) (go : Doing → Outcome Kept) → OfStrings e d.state → ((y : Doing) → OfStrings e y.state → New e (go y)) → New e (needed e d c x go)
needed_new e d c Done go h g = g d h
needed_new e d c (Begun t) go h g = if_case (New e) (t == e.thread) (go d) (waits e) (g d h) refl
needed_new e d c Failed go h g = throws_new e NoClassDefFoundError d h
needed_new e d c Untouched go h g =
    if_case (New e) (is_quiet e d c) (go (quietly_done e c d)) (begins_class e c d) (g (quietly_done e c d) (quietly_strings e c d h)) (begins_class_new e c d h)

pub initialized_new : (e : Moment) (d : Doing) (c : ℕ) (go : Doing → Outcome Kept) → OfStrings e d.state → ((y : Doing) → OfStrings e y.state → New e (go y)) → New e (initialized e d c go)
initialized_new e d c go h g = needed_new e d c (state_of d c) go h g

-- OPERANDS that are taken, whatever they are

module _ (e : Moment) (refused : Outcome Kept) (ill : New e refused) where
  pub each_int : (ops : List Value) (go : ℤ → List Value → Outcome Kept) → ((n : ℤ) (below : List Value) → New e (go n below)) → New e (with_int refused ops go)
  each_int (Int n ∷ below) go h = h n below
  each_int other go h = ill

  each_high : (ops : List Value) (go : ℤ → List Value → Outcome Kept) → ((n : ℤ) (below : List Value) → New e (go n below)) → New e (with_long refused (LongHigh ∷ ops) go)
  each_high (Long n ∷ below) go h = h n below
  each_high other go h = ill

  pub each_long : (ops : List Value) (go : ℤ → List Value → Outcome Kept) → ((n : ℤ) (below : List Value) → New e (go n below)) → New e (with_long refused ops go)
  each_long (LongHigh ∷ below) go h = each_high below go h
  each_long other go h = ill

  pub each_reference : (ops : List Value) (go : Reference → List Value → Outcome Kept) → ((r : Reference) (below : List Value) → New e (go r below)) → New e (with_reference refused ops go)
  each_reference (Null ∷ below) go h = h None below
  each_reference (Ref o ∷ below) go h = h (Some o) below
  each_reference other go h = ill

  pub each_value : (kind : Option Operand) (ops : List Value) (go : Value → List Value → Outcome Kept) → ((v : Value) (below : List Value) → New e (go v below)) → New e (with_value kind refused ops go)
  each_value None ops go h = ill
  each_value (Some operand.Int) ops go h = each_int ops (λ n. go (Int n)) (λ n below. h (Int n) below)
  each_value (Some operand.Long) ops go h = each_long ops (λ n. go (Long n)) (λ n below. h (Long n) below)
  each_value (Some operand.Reference) ops go h = each_reference ops (λ r. go (referent_value r)) (λ r below. h (referent_value r) below)
