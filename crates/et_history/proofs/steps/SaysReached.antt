-- What an event writes to: its U records are of statics, but for that of System.out, and of objects that are at hand.
use Rattle.et_base.specs.declared.value.Value.{Value}
use Rattle.et_base.specs.declared.value.Value.TheVariants.{Int, Long, LongHigh, Null, Ref, Unset}
use Rattle.et_event.specs.Calls.{class_done_by}
use Rattle.et_event.specs.Errors.{class_called}
use Rattle.et_event.specs.Event.{event}
use Rattle.et_event.specs.Frames.{frames_after_return, method_frame, receiver_of}
use Rattle.et_event.specs.Moments.{Doing, Moment, begins, current_frame, doing_with_guest, instance_made, next_object, slot_written, static_written, thread_of, told, updated, with_frame, with_thread_state}
use Rattle.et_event.specs.Monitors.{Lock, OfClass, OfObject, entered, entered_some, left, left_some, lock_for, owns}
use Rattle.et_event.specs.Runnable.{IsRunnable}
use Rattle.et_event.specs.Sound.{IsSoundFor}
use Rattle.et_event.specs.Strings.{interned}
use Rattle.et_event.specs.Throw.{dropped, left_if_owned}
use Rattle.et_heap.specs.Objects.{IsHeld, object_at, slot_of, with_object_at, with_slot}
use Rattle.et_program.specs.Entries.{Linked, method_at}
use Rattle.et_state.specs.Interned.{object_of}
use Rattle.et_state.specs.Outcome.{Outcome}
use Rattle.et_state.specs.Outcome as outcome
use Rattle.et_state.specs.State.{Kept}
use Rattle.et_state.specs.Threads.{entered_by, in_clinit, rest_of}
use Rattle.et_state.specs.Words.{IsUnended, static_at, thread_at, with_static, with_string}
use Rattle.et_state.specs.declared.records.Record.{Record}
use Rattle.et_state.specs.declared.records.Record.TheVariants.{Alloc, Enter, Exit, Unwind, Update}
use Rattle.et_state.specs.declared.stage.Stage.{Stage}
use Rattle.et_state.specs.declared.stage.Stage.TheVariants.{Before, Clinit, Plain}
use Rattle.et_history.proofs.steps.Folding.{MadeOf, comes_so}
use Rattle.et_history.proofs.steps.Held.{Ready}
use Rattle.et_history.proofs.steps.Recording.{Told}
use Rattle.et_history.proofs.steps.SaysRecords.{records_come, under}
use Rattle.et_history.proofs.steps.Turns.{event_leads}
use Rattle.et_history.specs.steps.Steps.{AllObjects, Begins, BeginsClass, Catches, ClassBecomes, Comes, CountsEntered, Drops, Ends, EntersClinit, EntersCode, EntersMonitor, GoesOn, Interns, IsUnder, Leads, LeavesMonitor, Level, MakesArray, MakesInstance, MayWrite, Pends, Phase, Polls, Returns, SetsQueue, SetsReferent, Starts, Unwinds, UnwindsClinit, WritesSlot, WritesStatic, own_lock}
use Rattle.et_history.specs.steps.Writes.{EachRecord, IsAtHand, IsBesideOut, IsOfReached, TellsBesideOut, WritesToReached, is_out_slot}
use Rattle.std.proofs.Common.{List, None, Option, Some, [], false, inl, inr, refl, subst, ℕ, ◌∷◌, ◌≡◌, ◌⊎◌}
use Rattle.std.proofs.lemmas.List.Elements.{All-append, All-cons, All-nil, All-weaker}
use Rattle.std.specs.Prelude.{All, codes, is_some, unwrap_or}
use Rattle.et_history.proofs.soundness.Outcomes.{if_case}

-- what a U record is of: a static that isn't that of System.out, or an object at hand
abbrev IsOf : Moment → (object slot : ℕ) → Type 0
IsOf e o i = ((o ≡ 0) × (is_out_slot e.program i ≡ false)) ⊎ ((o ≡ 0 → ⊥) × IsAtHand e.before o)

abbrev IsOfSome : Moment → Record → Type 0
IsOfSome e (Update event thread object slot old new) = IsOf e object slot
IsOfSome e other = Unit {0}

-- the records of an event so far
record OfReached (e : Moment) (d : Doing) : Type 0 where
  all : All (IsOfSome e) d.records

of_reached : (e : Moment) (r : Record) → IsOfSome e r → IsOfReached e.before r
of_reached e (Alloc event thread object class size elements) h = tt
of_reached e (Update event thread object slot old new) (inl h) = inl h.0
of_reached e (Update event thread object slot old new) (inr h) = inr h.1
of_reached e (Enter event thread method receiver) h = tt
of_reached e (Exit event thread method) h = tt
of_reached e (Unwind event thread method exception) h = tt

beside_out : (e : Moment) (r : Record) → IsOfSome e r → IsBesideOut e.program r
beside_out e (Alloc event thread object class size elements) h = tt
beside_out e (Update event thread object slot old new) (inl h) = λ none. h.1
beside_out e (Update event thread object slot old new) (inr h) = λ none. absurd (h.0 none)
beside_out e (Enter event thread method receiver) h = tt
beside_out e (Exit event thread method) h = tt
beside_out e (Unwind event thread method exception) h = tt

module _ (e : Moment) (ready : Ready e) where
  first : OfReached e (begins e)
  first = record { all = All-nil (IsOfSome e) }

  -- one record more
  one_more : (r : Record) (d : Doing) → IsOfSome e r → OfReached e d → OfReached e (told r d)
  one_more r d is h = record { all = All-append (IsOfSome e) d.records (r ∷ []) h.all (All-cons (IsOfSome e) r [] is (All-nil (IsOfSome e))) }

  updated_so : (o i : ℕ) (old v : Value) (d : Doing) → IsOf e o i → OfReached e d → OfReached e (updated e o i old v d)
  updated_so o i old Unset d is h = h
  updated_so o i old (Int n) d is h = h
  updated_so o i old (Long n) d is h = h
  updated_so o i old LongHigh d is h = h
  updated_so o i old Null d is h = one_more (Update d.state.guest.clock e.thread o i _ 0) d is h
  updated_so o i old (Ref new) d is h = one_more (Update d.state.guest.clock e.thread o i _ new) d is h

  slot_so : (o i : ℕ) (v : Value) (d : Doing) → (o ≡ 0 → ⊥) → IsAtHand e.before o → OfReached e d → OfReached e (slot_written e o i v d)
  slot_so o i v d some is h =
      let x = object_at d.state.heap o in
      updated_so o i (slot_of x i) v (record { state = record { heap = with_object_at d.state.heap o (with_slot i v x); guest = d.state.guest }; records = d.records }) (inr (some, is)) (record { all = h.all })

  static_so : (i : ℕ) (v : Value) (d : Doing) → is_out_slot e.program i ≡ false → OfReached e d → OfReached e (static_written e i v d)
  static_so i v d other h = updated_so 0 i (static_at d.state.guest i) v (doing_with_guest (with_static d.state.guest i v) d) (inl (refl, other)) (record { all = h.all })

  instance_so : (class : ℕ) (d : Doing) → OfReached e d → OfReached e (instance_made e class d)
  instance_so class d h = one_more _ (record { state = (instance_made e class d).state; records = d.records }) tt (record { all = h.all })

  interned_so : (bytes : List ℕ) (d : Doing) → OfReached e d → OfReached e (interned e bytes d)
  interned_so bytes d h =
      let class : ℕ = class_called e.program (codes "java/lang/String") in
      let x : Doing = instance_made e class d in
      let there : OfReached e x = instance_so class d h in
      if_case (OfReached e) (is_some (object_of d.state.guest.interned bytes)) d (doing_with_guest (with_string x.state.guest bytes (next_object d)) x) h (record { all = there.all })

  -- MONITORS

  entered_so : (lock : Lock) (d : Doing) → OfReached e d → OfReached e (entered e lock d)
  entered_so (OfObject o) d h = record { all = h.all }
  entered_so (OfClass c) d h = record { all = h.all }

  left_so : (lock : Lock) (d : Doing) → OfReached e d → OfReached e (left lock d)
  left_so (OfObject o) d h = record { all = h.all }
  left_so (OfClass c) d h = record { all = h.all }

  entered_some_so : (lock : Option Lock) (d : Doing) → OfReached e d → OfReached e (entered_some e lock d)
  entered_some_so None d h = h
  entered_some_so (Some lock) d h = entered_so lock d h

  left_some_so : (lock : Option Lock) (d : Doing) → OfReached e d → OfReached e (left_some lock d)
  left_some_so None d h = h
  left_some_so (Some lock) d h = left_so lock d h

  owned_so : (lock : Option Lock) (d : Doing) → OfReached e d → OfReached e (left_if_owned e lock d)
  owned_so None d h = h
  owned_so (Some lock) d h = if_case (OfReached e) (owns e d lock) (left lock d) d (left_so lock d h) h

  done_so : (stage : Stage) (d : Doing) → OfReached e d → OfReached e (class_done_by stage d)
  done_so Plain d h = h
  done_so (Before c) d h = h
  done_so (Clinit c) d h = record { all = h.all }

  -- THE STEPS

  -- the object 0 is none
  held_some : (o i : ℕ) (v : Value) (ph : Phase) (x : Doing) → Comes e AllObjects ph x → (IsUnder e x.state → MayWrite x.state.heap o i v) → o ≡ 0 → ⊥
  held_some o i v ph x h a none =
      let told : Told e x = records_come e ready ready.may.texts.string ph x h in
      told.sound.none (subst (λ (k : ℕ). IsHeld x.state.heap k) none (a (under e x told)).held)

  reached_come : (ph : Phase) (d : Doing) → Comes e AllObjects ph d → OfReached e d
  reached_come ph d Begins = first
  reached_come ph d (GoesOn f x h framed a) = record { all = (reached_come Level x h).all }
  reached_come ph d (EntersCode m body arguments x h is f has may) =
      let receiver : Option ℕ = receiver_of e.program m arguments in
      let y : Doing = entered_some e (lock_for (method_at e.program m) receiver) x in
      let g : OfReached e y = entered_some_so (lock_for (method_at e.program m) receiver) x (reached_come Level x h) in
      let z : Doing = with_thread_state e (entered_by (method_frame e.program m body arguments) (thread_at y.state.guest e.thread)) y in
      one_more (Enter y.state.guest.clock e.thread m (unwrap_or receiver 0)) z tt (record { all = g.all })
  reached_come ph d (EntersClinit m body x h framed is fine) =
      one_more (Enter x.state.guest.clock e.thread m 0) (with_frame e (in_clinit m body.max_stack body.max_locals (current_frame e)) x) tt (record { all = (reached_come Level x h).all })
  reached_come ph d (BeginsClass c x h) = record { all = (reached_come Level x h).all }
  reached_come ph d (Returns values framed is f has owned) =
      let stage : Stage = (current_frame e).stage in
      let x : Doing = class_done_by stage (left_some (own_lock e) (begins e)) in
      let g : OfReached e x = done_so stage (left_some (own_lock e) (begins e)) (left_some_so (own_lock e) (begins e) first) in
      let z : Doing = with_thread_state e (record (thread_of e) { frames = frames_after_return e.program stage values (rest_of (thread_of e).frames) }) x in
      one_more (Exit x.state.guest.clock e.thread (unwrap_or (current_frame e).method 0)) z tt (record { all = g.all })
  reached_come ph d (Unwinds o framed is held has) =
      let x : Doing = left_if_owned e (own_lock e) (begins e) in
      let g : OfReached e x = owned_so (own_lock e) (begins e) first in
      one_more (Unwind (begins e).state.guest.clock e.thread (unwrap_or (current_frame e).method 0) o) (dropped e x) tt (record { all = g.all })
  reached_come ph d (UnwindsClinit o framed is held none) =
      one_more (Unwind (begins e).state.guest.clock e.thread (unwrap_or (current_frame e).method 0) o) (dropped e (begins e)) tt (record { all = first.all })
  reached_come ph d (Drops x h framed none) = record { all = (reached_come Level x h).all }
  reached_come ph d (Catches o handler framed held) = record { all = first.all }
  reached_come ph d (CountsEntered x h) = record { all = (reached_come Level x h).all }
  reached_come ph d (Pends q o x h a) = record { all = (reached_come q x h).all }
  reached_come ph d (Starts o x h a) = record { all = (reached_come Level x h).all }
  reached_come ph d Ends = record { all = first.all }
  reached_come ph d (ClassBecomes q c y x h) = record { all = (reached_come q x h).all }
  reached_come ph d (WritesStatic i v x h lt a typed other) = static_so i v x other (reached_come Level x h)
  reached_come ph d (Interns bytes x h) = interned_so bytes x (reached_come Level x h)
  reached_come ph d (MakesInstance q class x makes h lt plain) = instance_so class x (reached_come q x h)
  reached_come ph d (MakesArray class n x makes h array) = one_more _ (record { state = d.state; records = x.records }) tt (record { all = (reached_come Level x h).all })
  reached_come ph d (WritesSlot q o i v x h a tells) = slot_so o i v x (held_some o i v q x h a) tells.at_hand (reached_come q x h)
  reached_come ph d (EntersMonitor o x h at held) = entered_so (OfObject o) x (reached_come Level x h)
  reached_come ph d (LeavesMonitor o x h at held) = left_so (OfObject o) x (reached_come Level x h)
  reached_come ph d (SetsReferent o r x h a) = record { all = (reached_come Level x h).all }
  reached_come ph d (SetsQueue o q x h a) = record { all = (reached_come Level x h).all }
  reached_come ph d (Polls q x h a) = record { all = (reached_come Level x h).all }

  by_each : (P : Record → Type 0) → ((r : Record) → IsOfSome e r → P r) → (o : Outcome Kept) → Leads e o → EachRecord P o
  by_each P each (outcome.Goes next records) h =
      let d : Doing = record { state = next; records = records } in
      let made : MadeOf e ready d = comes_so e ready d h in
      All-weaker (IsOfSome e) P each records (reached_come made.phase d made.comes).all
  by_each P each other h = tt

  pub by_reached : (o : Outcome Kept) → Leads e o → WritesToReached e.before o
  by_reached = by_each (IsOfReached e.before) (of_reached e)

  pub by_others : (o : Outcome Kept) → Leads e o → TellsBesideOut e.program o
  by_others = by_each (IsBesideOut e.program) (beside_out e)

module _ (p : Linked) (s : Kept) (t : ℕ) (sound : IsSoundFor p s) (unended : IsUnended s.guest t) (may : IsRunnable p) where
  abbrev now : Moment
  now = record { program = p; before = s; thread = t }

  here : Ready now
  here = record { knows = record { sound = sound; thread = unended; classes = may.owners }; may = may }

  pub event_writes_to_reached : WritesToReached s (event p s t)
  event_writes_to_reached = by_reached now here (event p s t) (event_leads p s t sound unended may)

  pub event_tells_beside_out : TellsBesideOut p (event p s t)
  event_tells_beside_out = by_others now here (event p s t) (event_leads p s t sound unended may)
