-- The event in which a method with code is entered, after quiet classes became done.
use Rattle.std.proofs.Common.{◌≡◌, ℕ, zero, suc, ◌+◌, ◌<◌, ◌≤◌, ◌^◌, Bool, true, false, List, [], ◌∷◌, ◌++◌, length, get_or, All, Option, Some, None, refl, sym, ◌∙◌, ap, subst, arith, Contains, option_to_list, append_assoc}
use Rattle.std.specs.Prelude.{unwrap_or, IfSome}
use Rattle.std.proofs.lemmas.List.Elements.{Contains-append_right}
use Rattle.std.proofs.lemmas.Bool.{lt-ltb, le-ltb}
use Rattle.std.proofs.lemmas.List.{length-set}
use Rattle.et_base.specs.declared.value.Value.{Value}
use Rattle.et_class.specs.Names.{has as has_flag}
use Rattle.et_class.specs.declared.flags.TheConstants.{SYNCHRONIZED}
use Rattle.et_code.specs.Bodies.{Body}
use Rattle.et_heap.specs.declared.monitor.Monitor.{Monitor}
use Rattle.et_heap.specs.Objects.{IsHeld, ObjectState, Objects, at, found, free_monitor, is_there, object_at, with_monitor}
use Rattle.et_heap.specs.Refs.{refs_of}
use Rattle.et_state.specs.ThreadRoots.{frame_roots}
use Rattle.et_state.specs.NewFrames.{frame_with}
use Rattle.et_state.specs.declared.new_frame.NewHead.{NewHead}
use Rattle.et_state.specs.Threads.{FrameState, ThreadState, no_thread, entered_by, locals_with, most_frames, popped, with_top_of}
use Rattle.et_state.specs.State.{Kept, MachineState, kept_of}
use Rattle.et_state.specs.Words.{HasFrame, thread_at, top, steps_thread, steps_top}
use Rattle.et_state.specs.Interned.{interned_objects}
use Rattle.et_state.specs.Moves.{IsOnWay, Led}
use Rattle.et_state.proofs.Calls.{on_enter_frame, on_enter_over, on_set_entered}
use Rattle.et_state.proofs.Places.{string_root}
use Rattle.et_state.proofs.Steps.{root_there}
use Rattle.et_program.specs.Entries.{Linked, method_at, is_static}
use Rattle.et_program.specs.declared.info.MethodInfo.{MethodInfo}
use Rattle.et_state.specs.declared.records.Record.{Record}
use Rattle.et_state.specs.declared.records.Record.TheVariants.{Enter}
use Rattle.et_state.specs.declared.ends.EventEnd.{EventEnd}
use Rattle.et_state.specs.declared.ends.EventEnd.TheVariants as ends
use Rattle.et_state.specs.Outcome.{Outcome}
use Rattle.et_event.specs.declared.errors.GuestError.TheVariants.{StackOverflowError}
use Rattle.et_event.specs.Answered.{EventAnswers}
use Rattle.et_event.specs.Checks.{frame_fits, throws_unless, waits_unless}
use Rattle.et_event.specs.Frames.{frame_entered, lock_slot, method_frame, receiver_of}
use Rattle.et_event.specs.Moments.{Moment, moment, Doing, begins, told, with_thread_state, fits_heap, throws, ends_event as ending}
use Rattle.et_event.specs.Monitors.{Lock, OfObject, OfClass, entered_some, is_open_to, lock_for, may_enter_some, monitor_of}
use Rattle.et_event.specs.Sound.{IsSoundFor}
use Rattle.et_event.specs.Locks.{HasMonitor, HasSome, IsSomeFewTimes, entering_some, may_enter_some_at, monitor_at}
use Rattle.et_event.proofs.Keeping.{entered_is, monitor_on_way}
use Rattle.et_event.proofs.Entering.{commutes, entered_clock, entered_records, fits_locked, frame_holds}
use Rattle.et_event.proofs.There.{few_times, method_lock_there, there_later}
use Rattle.et_event.proofs.Throwing.{ends_fit, ends_full}
use Rattle.et_event.specs.InitializationOrder.{IsInOrder}
use Rattle.et_initialize.proofs.Beginning.{strings_led}
use Rattle.et_initialize.proofs.Preparing.{grown_prepared}
use Rattle.et_initialize.specs.Asked.{after}
use Rattle.et_initialize.proofs.Stepping.{base, base_threads, has_frame_on, made_after, monitors_after, threads_after, top_on}
use Rattle.et_builtins.specs.Arguments.{arguments_in}
use Rattle.et_calls.specs.declared.new_frames.Entered.{Entered}
use Rattle.et_calls.specs.declared.new_frames.Passed.{Passed}
use Rattle.et_calls.specs.declared.new_frames.Passed.TheVariants.{Operands, Object}
use Rattle.et_calls.specs.Entering.{ArePassedTo, IsEntered, arguments_passed, entering_event, passed_by, passing, prepared_for, pushed_by, pushed_event}
use Rattle.et_calls.specs.Fresh.{IsFresh}
use Rattle.et_calls.proofs.Fresh.{fresh_on}
use Rattle.et_calls.proofs.Passed.{over_same, passed_held, passed_on, passed_thread, receiver_held, slot_in, taken_started}
use Rattle.et_calls.proofs.Thrown.{entry_root}

-- THE CLASSES BECAME DONE: objects and monitors are as they were

at_grown : (a rest : Objects) (o : ℕ) → is_there (at a o) → at (a ++ rest) o ≡ at a o
at_grown [] rest o h = absurd h
at_grown (x ∷ a) rest zero h = refl
at_grown (x ∷ a) rest (suc o) h = at_grown a rest o h

heap_after : (p : Linked) (t : ℕ) (ks : List ℕ) (m : MachineState) (o : ℕ) → IsHeld m.heap o → at (after p m t ks).state.heap o ≡ at m.heap o
heap_after p t ks m o h =
    let g = grown_prepared (moment p m t) ks (begins (moment p m t)) in
    ap (λ (x : Objects). at x o) g.is ∙ at_grown m.heap g.rest o h

held_after : (p : Linked) (t : ℕ) (ks : List ℕ) (m : MachineState) (o : ℕ) → IsHeld m.heap o → IsHeld (after p m t ks).state.heap o
held_after p t ks m o h = subst (λ (x : Option ObjectState). is_there x) (sym (heap_after p t ks m o h)) h

monitor_after : (p : Linked) (t : ℕ) (ks : List ℕ) (m : MachineState) (lock : Lock) → HasMonitor m lock → monitor_of (after p m t ks) lock ≡ monitor_at m lock
monitor_after p t ks m (OfObject o) has = ap (λ (x : Option ObjectState). (found x).monitor) (heap_after p t ks m o has)
monitor_after p t ks m (OfClass c) has = ap (λ (xs : List Monitor). get_or xs c free_monitor) (monitors_after p t ks m)

may_after : (p : Linked) (t : ℕ) (ks : List ℕ) (m : MachineState) (lock : Option Lock) → HasSome m lock → may_enter_some (moment p m t) (after p m t ks) lock ≡ may_enter_some_at t lock m
may_after p t ks m None has = refl
may_after p t ks m (Some lock) has = ap (λ (x : Monitor). is_open_to t x.owner) (monitor_after p t ks m lock has)

has_base : (p : Linked) (t : ℕ) (ks : List ℕ) (m : MachineState) (lock : Option Lock) → HasSome m lock → HasSome (base p m t ks) lock
has_base p t ks m None has = tt
has_base p t ks m (Some (OfObject o)) has = held_after p t ks m o has
has_base p t ks m (Some (OfClass c)) has = subst (λ (xs : List Monitor). c < length xs) (sym (monitors_after p t ks m)) has

few_base : (p : Linked) (t : ℕ) (ks : List ℕ) (m : MachineState) (lock : Option Lock) → HasSome m lock → IsSomeFewTimes m lock → IsSomeFewTimes (base p m t ks) lock
few_base p t ks m None has few = tt
few_base p t ks m (Some (OfObject o)) has few = subst (λ (x : Monitor). x.count ≤ 2 ^ 40) (sym (monitor_after p t ks m (OfObject o) has)) few
few_base p t ks m (Some (OfClass c)) has few = subst (λ (x : Monitor). x.count ≤ 2 ^ 40) (sym (monitor_after p t ks m (OfClass c) has)) few

-- what the frame is put on
pub base_passed : (p : Linked) (t : ℕ) (ks : List ℕ) (passed : Passed) (m n : MachineState) → n ≡ base p m t ks → ArePassedTo m.guest t passed → ArePassedTo n.guest t passed
base_passed p t ks passed m n e there = passed_on m.guest n.guest t passed (base_threads p t ks m n e) there

pub base_arguments : (p : Linked) (t : ℕ) (ks : List ℕ) (passed : Passed) (m n : MachineState) → n ≡ base p m t ks → arguments_passed (top n.guest t) passed ≡ arguments_passed (top m.guest t) passed
base_arguments p t ks passed m n e = ap (λ (f : FrameState). arguments_passed f passed) (top_on m.guest n.guest t (base_threads p t ks m n e))

pub base_few : (p : Linked) (t : ℕ) (ks : List ℕ) (m n : MachineState) → n ≡ base p m t ks → length (thread_at m.guest t).frames < most_frames → length (thread_at n.guest t).frames < most_frames
base_few p t ks m n e lt = subst (λ (ts : List ThreadState). length (get_or ts t no_thread).frames < most_frames) (sym (base_threads p t ks m n e)) lt

pub base_lock : (p : Linked) (t : ℕ) (ks : List ℕ) (m n : MachineState) (lock : Option Lock) → n ≡ base p m t ks → IsSoundFor p (kept_of m) → HasSome m lock → HasSome n lock × IsSomeFewTimes n lock
base_lock p t ks m n lock e sound has =
    (subst (λ (z : MachineState). HasSome z lock) (sym e) (has_base p t ks m lock has), subst (λ (z : MachineState). IsSomeFewTimes z lock) (sym e) (few_base p t ks m lock has (few_times p m lock sound has)))

-- THE LOCK OF THE METHOD is there

some_held : (m : MachineState) (r : Option ℕ) (o : ℕ) → IfSome r (λ k. IsHeld m.heap k) → r ≡ Some o → IsHeld m.heap o
some_held m r o held e = subst (λ (q : Option ℕ). IfSome q (λ k. IsHeld m.heap k)) e held

pub entered_lock : (p : Linked) (t : ℕ) (x : Entered) (m : MachineState) (r : Option ℕ) (lock : Option Lock) → IsSoundFor p (kept_of m) → IsEntered p m t x → r ≡ receiver_of p x.method (arguments_passed (top m.guest t) x.passed)
    → IfSome r (λ o. IsHeld m.heap o) → lock ≡ lock_for x.info.now r
    → (lock ≡ lock_for (method_at p x.method) (receiver_of p x.method (arguments_passed (top m.guest t) x.passed))) × HasSome m lock
entered_lock p t x m r lock sound is received held e = (
  e ∙ (ap (λ (i : MethodInfo). lock_for i r) is.info ∙ ap (λ (q : Option ℕ). lock_for (method_at p x.method) q) received),
  subst (λ (l : Option Lock). HasSome m l) (sym e) (method_lock_there m x.info.now r (subst (λ (n : ℕ). x.info.now.class < n) (sym sound.class_monitors.0) is.class) (λ o some. some_held m r o held some)),
)

-- THE ARGUMENTS ARE TAKEN

record Took (d d₁ : Doing) (n : MachineState) : Type 0 where
  kept : kept_of n ≡ d₁.state
  records : d₁.records ≡ d.records
  heap : n.heap ≡ d.state.heap
  monitors : n.guest.class_monitors ≡ d.state.guest.class_monitors
  strings : n.guest.interned ≡ d.state.guest.interned
  clock : d₁.state.guest.clock ≡ d.state.guest.clock

took : (p : Linked) (t : ℕ) (ks : List ℕ) (passed : Passed) (m : MachineState) → Took (after p m t ks) (passing (moment p m t) passed (after p m t ks)) (passed_by (base p m t ks) t passed)
took p t ks (Operands count) m = record {
  kept = ap (λ (h : FrameState). kept_of (steps_top (base p m t ks) t (popped count h) [])) (top_on m.guest (base p m t ks).guest t (threads_after p t ks m));
  records = refl;
  heap = refl;
  monitors = refl;
  strings = refl;
  clock = refl;
}
took p t ks (Object argument) m = record { kept = refl; records = refl; heap = refl; monitors = refl; strings = refl; clock = refl }

-- WHAT THE NEW FRAME HOLDS
frame_held : (p : Linked) (t method : ℕ) (ks : List ℕ) (body : Body) (passed : Passed) (m : MachineState) → IsSoundFor p (kept_of m) → ArePassedTo m.guest t passed
    → (o : ℕ) → Contains (frame_roots (method_frame p method body (arguments_passed (top m.guest t) passed))) o → IsHeld (after p m t ks).state.heap o
frame_held p t method ks body passed m sound there =
    let vs : List Value = arguments_passed (top m.guest t) passed in
    let held = λ (o : ℕ) (c : Contains (refs_of vs) o). held_after p t ks m o (passed_held t passed m sound.held there o c) in
    frame_holds p method body vs (λ o. IsHeld (after p m t ks).state.heap o) held (λ o c. held o (slot_in (has_flag (method_at p method).flags SYNCHRONIZED) (is_static p method) vs o c))

-- THE FRAME IS PUT ON TOP

put_on_way : (p : Linked) (t method : ℕ) (ks : List ℕ) (body : Body) (passed : Passed) (m : MachineState) → IsInOrder p → All (λ k. k < length p.classes) ks → IsSoundFor p (kept_of m) → ArePassedTo m.guest t passed
    → IsOnWay (kept_of m) (pushed_by (base p m t ks) t passed (method_frame p method body (arguments_passed (top m.guest t) passed)))
put_on_way p t method ks body (Operands count) m order all sound there =
    let s = kept_of m in
    let n : MachineState = base p m t ks in
    let threads = threads_after p t ks m in
    let on : HasFrame n.guest t = has_frame_on m.guest n.guest t threads there.0 in
    let vs : List Value = arguments_in (top m.guest t) count in
    let h : NewHead = record { method = method; lock = lock_slot p method vs; max_stack = body.max_stack; max_locals = body.max_locals } in
    let x : ThreadState = with_top_of (thread_at n.guest t) (popped count (top n.guest t)) in
    let locals : List ℕ = refs_of (locals_with body.max_locals vs) in
    let way : IsOnWay s (steps_thread n t (entered_by (frame_with h (arguments_in (top n.guest t) count)) x) []) =
    on_enter_over s n t h count (made_after p t ks m order all sound).way on (λ o c. frame_held p t method ks body (Operands count) m sound there o (Contains-append_right locals (option_to_list h.lock) o c)) in
    subst (λ (z : MachineState). IsOnWay s z) (over_same n t x (frame_with h vs) on.thread)
    (subst (λ (f : FrameState). IsOnWay s (steps_thread n t (entered_by (frame_with h (arguments_in f count)) x) [])) (top_on m.guest n.guest t threads) way)
put_on_way p t method ks body (Object argument) m order all sound there =
    let s = kept_of m in
    let n : MachineState = base p m t ks in
    let threads = threads_after p t ks m in
    let on : IsFresh n.guest t = fresh_on m.guest n.guest t threads there.0 in
    let way : IsOnWay s (passed_by n t (Object argument)) =
    on_set_entered s n t (made_after p t ks m order all sound).way on.unended
    (λ o c. root_there s (kept_of n) o (entry_root m.guest t o there.0 (subst (λ (ts : List ThreadState). Contains (option_to_list (get_or ts t no_thread).entry) o) threads c))) in
    on_enter_frame s (passed_by n t (Object argument)) t (method_frame p method body (arguments_passed (top m.guest t) (Object argument))) way
    (taken_started n t (Object argument) (passed_on m.guest n.guest t (Object argument) threads there))
    (λ o c. frame_held p t method ks body (Object argument) m sound there o c)

-- A MONITOR IS ENTERED

locked : (s : Kept) (t : ℕ) (lock : Option Lock) (m : MachineState) → IsOnWay s m → HasSome m lock → IsOnWay s (entering_some t lock m)
locked s t None m w has = w
locked s t (Some l) m w has = monitor_on_way s m l (record { owner = Some t; count = (monitor_at m l).count + 1 }) w has

locked_strings : (t : ℕ) (lock : Option Lock) (m : MachineState) → (entering_some t lock m).guest.interned ≡ m.guest.interned
locked_strings t None m = refl
locked_strings t (Some (OfObject o)) m = refl
locked_strings t (Some (OfClass c)) m = refl

locked_length : (t : ℕ) (lock : Option Lock) (m : MachineState) → length (entering_some t lock m).heap ≡ length m.heap
locked_length t None m = refl
locked_length t (Some (OfObject o)) m = length-set m.heap o (Some (with_monitor (record { owner = Some t; count = (monitor_at m (OfObject o)).count + 1 }) (object_at m.heap o)))
locked_length t (Some (OfClass c)) m = refl

-- ALL OF IT

-- a method that has this lock is entered
abbrev entered_by_lock : Moment → ℕ → Body → List Value → Doing → Option Lock → Doing
entered_by_lock e method body vs d lock =
    told (Enter (entered_some e lock d).state.guest.clock e.thread method (unwrap_or (receiver_of e.program method vs) 0))
    (with_thread_state e (entered_by (method_frame e.program method body vs) (thread_at (entered_some e lock d).state.guest e.thread)) (entered_some e lock d))

room_taken : (p : Linked) (t : ℕ) (ks : List ℕ) (passed : Passed) (lock : Option Lock) (m : MachineState) (b : Bool) → HasSome m lock → fits_heap (after p m t ks).state.heap ≡ b → fits_heap (entered_some (moment p m t) lock (passing (moment p m t) passed (after p m t ks))).state.heap ≡ b
room_taken p t ks passed lock m b has room =
    let e = moment p m t in
    let n : MachineState = base p m t ks in
    let n₁ : MachineState = passed_by n t passed in
    let it = took p t ks passed m in
    fits_locked e lock (passing e passed (after p m t ks)) n₁ it.kept (there_later n n₁ lock it.heap it.monitors (has_base p t ks m lock has))
    ∙ (ap (λ (k : Kept). fits_heap k.heap) (sym it.kept) ∙ (ap (λ (h : Objects). fits_heap h) it.heap ∙ room))

pub method_entered : (p : Linked) (t method : ℕ) (ks : List ℕ) (body : Body) (passed : Passed) (lock : Option Lock) (m m₂ m₃ : MachineState) (out out₂ out₃ : List Record) → IsInOrder p → All (λ k. k < length p.classes) ks
    → IsSoundFor p (kept_of m) → ArePassedTo m.guest t passed → fits_heap (after p m t ks).state.heap ≡ true
    → lock ≡ lock_for (method_at p method) (receiver_of p method (arguments_passed (top m.guest t) passed)) → HasSome m lock → m₂ ≡ base p m t ks → out₂ ≡ out ++ (after p m t ks).records
    → m₃ ≡ entering_some t lock (pushed_by m₂ t passed (method_frame p method body (arguments_passed (top m.guest t) passed)))
    → out₃ ≡ out₂ ++ Enter m₂.guest.clock t method (unwrap_or (receiver_of p method (arguments_passed (top m.guest t) passed)) 0) ∷ []
    → EventAnswers (ending (frame_entered (moment p m t) method body (arguments_passed (top m.guest t) passed) (passing (moment p m t) passed (after p m t ks)))) ends.Done m m₃ out out₃
method_entered p t method ks body passed lock m m₂ m₃ out out₂ out₃ order all sound there room held has e₂ r₂ e₃ r₃ =
    let e : Moment = moment p m t in
    let s : Kept = kept_of m in
    let d : Doing = after p m t ks in
    let n : MachineState = base p m t ks in
    let vs : List Value = arguments_passed (top m.guest t) passed in
    let f : FrameState = method_frame p method body vs in
    let number : ℕ = unwrap_or (receiver_of p method vs) 0 in
    let made = made_after p t ks m order all sound in
    let grown = made.grown in
    let d₁ : Doing = passing e passed d in
    let n₁ : MachineState = passed_by n t passed in
    let it = took p t ks passed m in
    let n₂ : MachineState = pushed_by n t passed f in
    let way₂ : IsOnWay s n₂ = put_on_way p t method ks body passed m order all sound there in
    let has₂ : HasSome n₂ lock = there_later n n₂ lock it.heap it.monitors (has_base p t ks m lock has) in
    let z : MachineState = entering_some t lock n₂ in
    let is : m₃ ≡ z = e₃ ∙ ap (λ (y : MachineState). entering_some t lock (pushed_by y t passed f)) e₂ in
    let long : length z.heap ≡ length d.state.heap = locked_length t lock n₂ ∙ ap (λ (h : Objects). length h) it.heap in
    let led₁ : Led s (kept_of z) m₃ =
    strings_led s (kept_of z) m₃ (subst (λ (y : MachineState). IsOnWay s y) (sym is) (locked s t lock n₂ way₂ has₂)) (ap (λ (y : MachineState). kept_of y) is) (omega (arith, long, grown))
    (λ o low high. string_root z.guest o (subst (λ (texts : List (List ℕ × ℕ)). Contains (interned_objects texts) o) (sym (locked_strings t lock n₂ ∙ it.strings)) (made.made o low (omega (arith, long, high))))) in
    let x : Doing = entered_some e lock d₁ in
    let y : Doing = with_thread_state e (entered_by f (thread_at x.state.guest t)) x in
    let same : kept_of z ≡ y.state =
    ap (λ (w : Doing). w.state) (sym (entered_is e lock n₂ d₁.records))
    ∙ (ap (λ (k : Kept). (entered_some e lock (with_thread_state e (entered_by f (thread_at k.guest t)) (record { state = k; records = d₁.records }))).state) it.kept
    ∙ ap (λ (w : Doing). w.state) (commutes e lock f d₁)) in
    let all_done : Doing = told (Enter x.state.guest.clock t method number) y in
    let fit : fits_heap all_done.state.heap ≡ true = room_taken p t ks passed lock m true has room in
    let last : ℕ → List Record = λ k. Enter k t method number ∷ [] in
    let records : out₃ ≡ out ++ all_done.records =
    r₃ ∙ (ap (λ (k : ℕ). out₂ ++ last k) (ap (λ (w : MachineState). w.guest.clock) e₂)
    ∙ (ap (λ (rs : List Record). rs ++ last d.state.guest.clock) r₂
    ∙ (append_assoc out d.records (last d.state.guest.clock)
    ∙ (ap (λ (k : ℕ). out ++ (d.records ++ last k)) (sym (entered_clock e lock d₁ ∙ it.clock))
    ∙ ap (λ (rs : List Record). out ++ (rs ++ last x.state.guest.clock)) (sym (entered_records e lock d₁ ∙ it.records)))))) in
    let answers : EventAnswers (ending all_done) ends.Done m m₃ out out₃ =
    subst (λ (o : Outcome Kept). EventAnswers o ends.Done m m₃ out out₃) (sym (ends_fit all_done fit)) (subst (λ (k : Kept). Led s k m₃) same led₁, records) in
    subst (λ (l : Option Lock). EventAnswers (ending (entered_by_lock e method body vs d₁ l)) ends.Done m m₃ out out₃) held answers

-- .. where it doesn't fit
pub method_unfit : (p : Linked) (t method : ℕ) (ks : List ℕ) (body : Body) (passed : Passed) (lock : Option Lock) (m : MachineState) (out : List Record) → fits_heap (after p m t ks).state.heap ≡ false
    → lock ≡ lock_for (method_at p method) (receiver_of p method (arguments_passed (top m.guest t) passed)) → HasSome m lock
    → EventAnswers (ending (frame_entered (moment p m t) method body (arguments_passed (top m.guest t) passed) (passing (moment p m t) passed (after p m t ks)))) ends.ObjectLimit m m out out
method_unfit p t method ks body passed lock m out room held has =
    let e : Moment = moment p m t in
    let vs : List Value = arguments_passed (top m.guest t) passed in
    let d₁ : Doing = passing e passed (after p m t ks) in
    let fit : fits_heap (entered_by_lock e method body vs d₁ lock).state.heap ≡ false = room_taken p t ks passed lock m false has room in
    subst (λ (l : Option Lock). EventAnswers (ending (entered_by_lock e method body vs d₁ l)) ends.ObjectLimit m m out out) held
    (subst (λ (o : Outcome Kept). EventAnswers o ends.ObjectLimit m m out out) (sym (ends_full (entered_by_lock e method body vs d₁ lock) fit)) (refl, refl))

pub unfit : (p : Linked) (t : ℕ) (x : Entered) (m : MachineState) (out : List Record) → IsSoundFor p (kept_of m) → IsEntered p m t x → fits_heap (after p m t x.classes.now).state.heap ≡ false
    → EventAnswers (pushed_event (moment p m t) x) ends.ObjectLimit m m out out
unfit p t x m out sound is room =
    let vs : List Value = arguments_passed (top m.guest t) x.passed in
    let r : Option ℕ = receiver_of p x.method vs in
    let held : IfSome r (λ o. IsHeld m.heap o) = receiver_held t x.passed m (is_static p x.method) sound.held is.passed in
    let lock : Option Lock = lock_for x.info.now r in
    let locked = entered_lock p t x m r lock sound is refl held refl in
    method_unfit p t x.method x.classes.now x.code.now x.passed lock m out room locked.0 locked.1

-- HOW MANY FRAMES THERE ARE

pub fits_few : (p : Linked) (t : ℕ) (ks : List ℕ) (go : Outcome Kept) (m m' : MachineState) (out out' : List Record) (end : EventEnd) → length (thread_at m.guest t).frames < most_frames
    → EventAnswers go end m m' out out' → EventAnswers (frame_fits (moment p m t) (after p m t ks) go) end m m' out out'
fits_few p t ks go m m' out out' end lt a =
    let d = after p m t ks in
    let few : length (thread_at d.state.guest t).frames < most_frames = subst (λ (ts : List ThreadState). length (get_or ts t no_thread).frames < most_frames) (sym (threads_after p t ks m)) lt in
    subst (λ (o : Outcome Kept). EventAnswers o end m m' out out')
    (sym (ap (λ (b : Bool). throws_unless (moment p m t) d StackOverflowError b go) (lt-ltb (length (thread_at d.state.guest t).frames) most_frames few))) a

pub fits_full : (p : Linked) (t : ℕ) (ks : List ℕ) (go : Outcome Kept) (m m' : MachineState) (out out' : List Record) (end : EventEnd) → most_frames ≤ length (thread_at m.guest t).frames
    → EventAnswers (throws (moment p m t) StackOverflowError (after p m t ks)) end m m' out out' → EventAnswers (frame_fits (moment p m t) (after p m t ks) go) end m m' out out'
fits_full p t ks go m m' out out' end le a =
    let d = after p m t ks in
    let full : most_frames ≤ length (thread_at d.state.guest t).frames = subst (λ (ts : List ThreadState). most_frames ≤ length (get_or ts t no_thread).frames) (sym (threads_after p t ks m)) le in
    subst (λ (o : Outcome Kept). EventAnswers o end m m' out out')
    (sym (ap (λ (b : Bool). throws_unless (moment p m t) d StackOverflowError b go) (le-ltb (length (thread_at d.state.guest t).frames) most_frames full))) a

pub full_frame : (p : Linked) (t : ℕ) (x : Entered) (m : MachineState) → IsEntered p m t x → most_frames ≤ length (thread_at m.guest t).frames → HasFrame m.guest t
full_frame p t x m is le = record { thread = passed_thread m.guest t x.passed is.passed; frame = omega (arith, le) }

-- WHETHER THE MONITOR MAY BE ENTERED

-- the event where it may
abbrev pub fitting_event : Moment → Entered → Outcome Kept
fitting_event e x = frame_fits e (prepared_for e x) (pushed_event e x)

code_is : (p : Linked) (t : ℕ) (x : Entered) (m : MachineState) (lock : Option Lock) (b : Bool) → lock ≡ lock_for (method_at p x.method) (receiver_of p x.method (arguments_passed (top m.guest t) x.passed)) → HasSome m lock
    → may_enter_some_at t lock m ≡ b → entering_event (moment p m t) x ≡ waits_unless (moment p m t) b (fitting_event (moment p m t) x)
code_is p t x m lock b held has may =
    let e = moment p m t in
    let d = prepared_for e x in
    ap (λ (l : Option Lock). waits_unless e (may_enter_some e d l) (fitting_event e x)) (sym held)
    ∙ ap (λ (c : Bool). waits_unless e c (fitting_event e x)) (may_after p t x.classes.now m lock has ∙ may)

pub entering_is : (p : Linked) (t : ℕ) (x : Entered) (m : MachineState) (r : Option ℕ) (lock : Option Lock) (b : Bool) → IsSoundFor p (kept_of m) → IsEntered p m t x → r ≡ receiver_of p x.method (arguments_passed (top m.guest t) x.passed)
    → IfSome r (λ o. IsHeld m.heap o) → lock ≡ lock_for x.info.now r → may_enter_some_at t lock m ≡ b → entering_event (moment p m t) x ≡ waits_unless (moment p m t) b (fitting_event (moment p m t) x)
entering_is p t x m r lock b sound is received there e may =
    let locked = entered_lock p t x m r lock sound is received there e in
    code_is p t x m lock b locked.0 locked.1 may
