-- What the thread of an event throws, waits for, and initializes, where its frames are typed.
use Rattle.std.proofs.Common.{◌≡◌, ℕ, ◌<◌, ◌==◌, Bool, true, false, List, [], ◌∷◌, length, Option, Some, None, Ok, Err, Result, refl, sym, ◌∙◌, subst, ltb}
use Rattle.std.specs.Prelude.{◌^◌, codes, fold, is_some}
use Rattle.et_base.specs.declared.value.Value.TheVariants.{Int, Long, Ref}
use Rattle.et_event.specs.Checks.{Reference, frame_fits, not_null, resolved, throws_unless, waits_unless}
use Rattle.et_event.specs.Errors.{class_called, error_of}
use Rattle.et_event.specs.Initialization.{begins_class, begun_by, constant_set, constants_set, field_set, initialized, initializer_frame, is_quiet, needed, quietly_done, state_of, with_state}
use Rattle.et_event.specs.Kinds.{narrowed}
use Rattle.et_event.specs.Moments.{Doing, Moment, begins, doing_with_guest, ends_event, instance_made, next_object, throws, thread_of, waits}
use Rattle.et_event.specs.Runnable.{IsRunnable}
use Rattle.et_event.specs.Sites.{ALong, AString, AnInt, LoadedConstant, constant_at, pool_of_class}
use Rattle.et_event.specs.Sound.{IsSoundFor}
use Rattle.et_event.specs.Strings.{interned, string_object}
use Rattle.et_event.specs.declared.errors.GuestError.{GuestError}
use Rattle.et_event.specs.declared.errors.GuestError.TheVariants as errors
use Rattle.et_heap.specs.Objects.{ObjectState, at}
use Rattle.et_program.specs.Entries.{class_at, field_at}
use Rattle.et_program.specs.declared.errors.LinkError.{LinkError}
use Rattle.et_program.specs.declared.info.FieldInfo.{FieldInfo}
use Rattle.et_history.proofs.soundness.Initializing.{AllGoOn, all_done}
use Rattle.et_history.proofs.soundness.Outcomes.{begins_well, if_case}
use Rattle.et_history.specs.soundness.WellFormed.{IsWellFormed}
use Rattle.et_state.specs.Outcome.{Outcome}
use Rattle.et_state.specs.State.{Kept}
use Rattle.et_state.specs.Threads.{ThreadState, entered_by, most_frames}
use Rattle.et_state.specs.Words.{thread_at, with_string}
use Rattle.et_state.specs.Interned.{object_of}
use Rattle.et_state.specs.declared.class_state.ClassState.{ClassState}
use Rattle.et_state.specs.declared.class_state.ClassState.TheVariants.{Begun, Done, Failed, Untouched}
use Rattle.et_theorems.specs.typings.Typed.{AreTypedFrames, AreTypings, HasTypedSlots, IsTypedThread, LocalsAlone, Typings, Whole, part_of}
use Rattle.et_theorems.proofs.typings.Own.{AsBefore, LeavesTyped, ends_leave, same_thread, started_still, static_threads, thread_own, throws_typed, weak_frames}

-- nothing is pending, and each frame is of its types
pub record Calm (e : Moment) (typings : Typings) : Type 0 where
  pub sound : IsSoundFor e.program e.before
  pub clock : e.before.guest.clock < 2 ^ 40
  pub may : IsRunnable e.program
  pub kinds : AreTypings e.program typings
  pub started : e.thread < length e.before.guest.threads
  pub none : (thread_of e).pending ≡ None
  pub frames : AreTypedFrames e.program typings Whole (thread_of e).frames
  pub objects : (o : ℕ) (x : ObjectState) → at e.before.heap o ≡ Some x → HasTypedSlots e.program x

-- CONSTANTS change no thread

pub interned_threads : (e : Moment) (bytes : List ℕ) (d : Doing) → (interned e bytes d).state.guest.threads ≡ d.state.guest.threads
interned_threads e bytes d =
    let x : Doing = instance_made e (class_called e.program (codes "java/lang/String")) d in
    if_case (λ (y : Doing). y.state.guest.threads ≡ d.state.guest.threads) (is_some (object_of d.state.guest.interned bytes)) d (doing_with_guest (with_string x.state.guest bytes (next_object d)) x) refl refl

constant_threads : (e : Moment) (f : FieldInfo) (c : Option LoadedConstant) (d : Doing) → (constant_set e f c d).state.guest.threads ≡ d.state.guest.threads
constant_threads e f None d = refl
constant_threads e f (Some (AnInt n)) d = static_threads e f.slot (narrowed f.descriptor (Int n)) d
constant_threads e f (Some (ALong n)) d = static_threads e f.slot (Long n) d
constant_threads e f (Some (AString bytes)) d =
    let x : Doing = interned e bytes d in
    static_threads e f.slot (Ref (string_object bytes x)) x ∙ interned_threads e bytes d

fields_threads : (e : Moment) (fs : List ℕ) (d : Doing) → (fold (field_set e) d fs).state.guest.threads ≡ d.state.guest.threads
fields_threads e [] d = refl
fields_threads e (f ∷ fs) d =
    fields_threads e fs (field_set e d f)
    ∙ constant_threads e (field_at e.program f) (constant_at (pool_of_class e.program (field_at e.program f).class) (field_at e.program f).constant) d

pub constants_threads : (e : Moment) (c : ℕ) (d : Doing) → (constants_set e c d).state.guest.threads ≡ d.state.guest.threads
constants_threads e c d = fields_threads e (class_at e.program c).info.constants d

module _ (e : Moment) (typings : Typings) (calm : Calm e typings) where
  abbrev P : Outcome Kept → Type 0
  P o = LeavesTyped e typings o

  -- WHAT IS THROWN
  thrown : AreTypedFrames e.program typings LocalsAlone (thread_of e).frames
  thrown = weak_frames e.program typings Whole (thread_of e).frames calm.frames

  pub throws_here : (error : GuestError) (d : Doing) → AsBefore e d → P (throws e error d)
  throws_here error d same =
      throws_typed e typings error d (started_still e d calm.started same) (subst (λ (x : ThreadState). AreTypedFrames e.program typings LocalsAlone x.frames) (sym (same_thread e d same)) thrown)

  pub unless_thrown : (d : Doing) (error : GuestError) (b : Bool) (go : Outcome Kept) → AsBefore e d → (b ≡ true → P go) → P (throws_unless e d error b go)
  unless_thrown d error true go same h = h refl
  unless_thrown d error false go same h = throws_here error d same

  pub where_resolved : (d : Doing) (answer : Result ℕ LinkError) (go : ℕ → Outcome Kept) → AsBefore e d → ((member : ℕ) → answer ≡ Ok member → P (go member)) → P (resolved e d answer go)
  where_resolved d (Ok member) go same h = h member refl
  where_resolved d (Err error) go same h = throws_here (error_of error) d same

  pub where_not_null : (d : Doing) (r : Reference) (go : ℕ → Outcome Kept) → AsBefore e d → ((o : ℕ) → r ≡ Some o → P (go o)) → P (not_null e d r go)
  where_not_null d None go same h = throws_here errors.NullPointerException d same
  where_not_null d (Some o) go same h = h o refl

  pub unless_waiting : (b : Bool) (go : Outcome Kept) → P go → P (waits_unless e b go)
  unless_waiting true go h = h
  unless_waiting false go h = tt

  pub where_frame_fits : (d : Doing) (go : Outcome Kept) → AsBefore e d → P go → P (frame_fits e d go)
  where_frame_fits d go same h = unless_thrown d errors.StackOverflowError (ltb (length (thread_at d.state.guest e.thread).frames) most_frames) go same (λ few. h)

  -- INITIALIZATION
  begins_typed : (c : ℕ) (d : Doing) → AsBefore e d → P (begins_class e c d)
  begins_typed c d same =
      let x : Doing = constants_set e c (with_state c (Begun e.thread) d) in
      let as_before : AsBefore e x = constants_threads e c (with_state c (Begun e.thread) d) ∙ same in
      where_frame_fits d (ends_event (begun_by e c d)) same
      (ends_leave e typings (begun_by e c d)
      (thread_own e typings (entered_by (initializer_frame c) (thread_at x.state.guest e.thread)) x (started_still e x calm.started as_before)
      (subst (λ (y : ThreadState). IsTypedThread e.program typings (entered_by (initializer_frame c) y)) (sym (same_thread e x as_before))
      (subst (λ (o : Option ℕ). AreTypedFrames e.program typings (part_of o) (initializer_frame c ∷ (thread_of e).frames)) (sym calm.none) (tt, calm.frames)))))

  -- .. from a state with the threads before the event
  pub where_initialized : (c : ℕ) (d : Doing) (go : Doing → Outcome Kept) → AsBefore e d → IsWellFormed e.program d.state → ((x : Doing) → AsBefore e x → IsWellFormed e.program x.state → P (go x)) → P (initialized e d c go)
  where_initialized c d go same well h = by (state_of d c)
    where
      on : AllGoOn e (class_at e.program c).init_order d (quietly_done e c d)
      on = all_done e (class_at e.program c).init_order d calm.may.initializers calm.may.makes (calm.may.initializers.orders c) well

      by : (st : ClassState) → P (needed e d c st go)
      by Done = h d same well
      by (Begun t) = if_case P (t == e.thread) (go d) (waits e) (h d same well) tt
      by Failed = throws_here errors.NoClassDefFoundError d same
      by Untouched = if_case P (is_quiet e d c) (go (quietly_done e c d)) (begins_class e c d) (h (quietly_done e c d) (on.further.threads ∙ same) on.further.well) (begins_typed c d same)

  pub begun_well : IsWellFormed e.program (begins e).state
  begun_well = begins_well e.program e calm.sound calm.clock
