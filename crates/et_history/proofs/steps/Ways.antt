-- How an event goes on and ends.
use Rattle.et_base.specs.declared.value.Value.TheVariants.{Int, Long, Ref}
use Rattle.et_event.specs.Checks.{Reference, frame_fits, ill_typed_unless, not_null, resolved, throws_unless, waits_unless}
use Rattle.et_event.specs.Errors.{error_class, error_of}
use Rattle.et_event.specs.Heap.{is_out}
use Rattle.et_event.specs.Initialization.{begins_class, begun_by, class_done, constant_set, constants_set, field_set, initialized, is_quiet, needed, prepared, quietly_done, quietly_if_untouched, state_of, with_state}
use Rattle.et_event.specs.Kinds.{narrowed}
use Rattle.et_event.specs.Moments.{Doing, Moment, ends_event, entry_given_up, fits_heap, instance_made, next_object, pending_now, throws, waits}
use Rattle.et_event.specs.Operands.{operand_kind}
use Rattle.et_event.specs.Programs.{HasConstant, value_like}
use Rattle.et_event.specs.Sound.{is_of_kind}
use Rattle.et_event.specs.Sites.{ALong, AString, AnInt, LoadedConstant, constant_at, pool_of_class}
use Rattle.et_event.specs.Strings.{interned, string_object}
use Rattle.et_event.specs.declared.errors.GuestError.{GuestError}
use Rattle.et_event.specs.declared.errors.GuestError.TheVariants.{NoClassDefFoundError, NullPointerException, StackOverflowError}
use Rattle.et_heap.specs.Objects.{IsHeld, Objects}
use Rattle.et_program.specs.Entries.{class_at, field_at}
use Rattle.et_program.specs.declared.errors.LinkError.{LinkError}
use Rattle.et_program.specs.declared.info.FieldInfo.{FieldInfo}
use Rattle.et_state.specs.Outcome.{Outcome}
use Rattle.et_state.specs.State.{Kept}
use Rattle.et_state.specs.Threads.{most_frames}
use Rattle.et_state.specs.Words.{thread_at}
use Rattle.et_state.specs.declared.class_state.ClassState.{ClassState}
use Rattle.et_state.specs.declared.class_state.ClassState.TheVariants.{Begun, Done, Failed, Untouched}
use Rattle.et_history.proofs.steps.Constants.{constants_are}
use Rattle.et_history.proofs.steps.Held.{Ready}
use Rattle.et_event.proofs.Values.{narrowed_kind, any_reference}
use Rattle.et_history.proofs.soundness.Outcomes.{if_case}
use Rattle.et_history.proofs.steps.Taken.{int_given, long_given, ref_given}
use Rattle.et_history.proofs.steps.Small.{fold_keeps, fold_keeps_all, string_held}
use Rattle.et_history.specs.steps.Steps.{BeginsClass, ClassBecomes, Comes, Ended, Interns, Leads, Level, Phase, Plainly, Shifted, StringsAlone, WithError, WritesStatic, kind_of_static}
use Rattle.et_history.specs.steps.Values.{FineSome}
use Rattle.et_history.specs.steps.Writes.{is_out_slot}
use Rattle.std.proofs.Common.{Bool, Err, List, None, Ok, Option, Result, Some, false, length, ltb, refl, subst, sym, true, ℕ, ◌<◌, ◌==◌, ◌≡◌}
use Rattle.std.specs.Prelude.{if◌then◌else◌}
use Rattle.et_state.specs.Outcome as outcome

module _ (e : Moment) (ready : Ready e) where
  -- ENDS

  as_it_fits : (d : Doing) → Ended e d → (fits : Bool) → fits_heap d.state.heap ≡ fits → Leads e (if fits then outcome.Goes d.state d.records else outcome.ObjectLimit)
  as_it_fits d h true same = h
  as_it_fits d h false same = record { last = d; ended = h; beyond = same }

  pub ends_lead : (d : Doing) → Ended e d → Leads e (ends_event d)
  ends_lead d h = as_it_fits d h (fits_heap d.state.heap) refl

  pub end_leads : (ph : Phase) (d : Doing) → Comes e StringsAlone ph d → Leads e (ends_event d)
  end_leads ph d h = ends_lead d (Plainly ph d h)

  pub throws_lead : (error : GuestError) (d : Doing) → Comes e StringsAlone Level d → Leads e (throws e error d)
  throws_lead error d h = ends_lead (pending_now e (next_object d) (instance_made e (error_class e.program error) (entry_given_up e d))) (WithError error d h)

  -- WHAT REFUSES

  pub unless_ill_typed : (b : Bool) (go : Outcome Kept) → (b ≡ true → Leads e go) → Leads e (ill_typed_unless e b go)
  unless_ill_typed true go h = h refl
  unless_ill_typed false go h = tt

  pub unless_thrown : (d : Doing) (error : GuestError) (b : Bool) (go : Outcome Kept) → Comes e StringsAlone Level d → (b ≡ true → Leads e go) → Leads e (throws_unless e d error b go)
  unless_thrown d error true go h g = g refl
  unless_thrown d error false go h g = throws_lead error d h

  pub where_resolved : (d : Doing) (answer : Result ℕ LinkError) (go : ℕ → Outcome Kept) → Comes e StringsAlone Level d → ((member : ℕ) → answer ≡ Ok member → Leads e (go member)) → Leads e (resolved e d answer go)
  where_resolved d (Ok member) go h g = g member refl
  where_resolved d (Err error) go h g = throws_lead (error_of error) d h

  pub where_not_null : (heap : Objects) (d : Doing) (r : Reference) (go : ℕ → Outcome Kept) → Comes e StringsAlone Level d → FineSome heap r → ((o : ℕ) → IsHeld heap o → Leads e (go o)) → Leads e (not_null e d r go)
  where_not_null heap d None go h fine g = throws_lead NullPointerException d h
  where_not_null heap d (Some o) go h fine g = g o fine

  pub unless_waiting : (b : Bool) (go : Outcome Kept) → (b ≡ true → Leads e go) → Leads e (waits_unless e b go)
  unless_waiting true go g = g refl
  unless_waiting false go g = refl

  pub where_frame_fits : (d : Doing) (go : Outcome Kept) → Comes e StringsAlone Level d → Leads e go → Leads e (frame_fits e d go)
  where_frame_fits d go h g = unless_thrown d StackOverflowError (ltb (length (thread_at d.state.guest e.thread).frames) most_frames) go h (λ few. g)

  -- INITIALIZATION

  constant_comes : (f : FieldInfo) (c : Option LoadedConstant) (d : Doing) → f.slot < length e.program.statics → ((k : LoadedConstant) → c ≡ Some k → is_of_kind (kind_of_static e.program f.slot) (value_like k) ≡ true) → is_out_slot e.program f.slot ≡ false
      → Comes e StringsAlone Level d → Comes e StringsAlone Level (constant_set e f c d)
  constant_comes f None d lt typed other h = h
  constant_comes f (Some (AnInt n)) d lt typed other h =
      WritesStatic f.slot (narrowed f.descriptor (Int n)) d h lt (λ u. tt) (record { kind = narrowed_kind (kind_of_static e.program f.slot) f.descriptor (Int n) (typed (AnInt n) refl); given = int_given _ }) other
  constant_comes f (Some (ALong n)) d lt typed other h = WritesStatic f.slot (Long n) d h lt (λ u. tt) (record { kind = typed (ALong n) refl; given = long_given n }) other
  constant_comes f (Some (AString bytes)) d lt typed other h =
      let x : Doing = interned e bytes d in
      WritesStatic f.slot (Ref (string_object bytes x)) x (Interns bytes d h) lt (λ u. string_held e bytes d u.sound)
      (record { kind = any_reference (kind_of_static e.program f.slot) (string_object bytes x) (typed (AString bytes) refl); given = ref_given (string_object bytes x) }) other

  constants_come : (c : ℕ) (d : Doing) → Comes e StringsAlone Level d → Comes e StringsAlone Level (constants_set e c d)
  constants_come c d h =
      fold_keeps_all (HasConstant e.program c) (λ x. Comes e StringsAlone Level x) (field_set e)
      (λ x f has g. constant_comes (field_at e.program f) (constant_at (pool_of_class e.program (field_at e.program f).class) (field_at e.program f).constant) x has.slot
      (λ k is. subst (λ (n : ℕ). is_of_kind (operand_kind (field_at e.program n).descriptor) (value_like k) ≡ true) (sym has.place) (has.typed k is))
      (subst (λ (n : ℕ). is_out e.program n ≡ false) (sym has.place) has.other) g)
      (class_at e.program c).info.constants (constants_are e.program c ready.may.initializers) d h

  class_comes : (c : ℕ) (x : ClassState) (d : Doing) → Comes e StringsAlone Level d → Comes e StringsAlone Level (class_done e c x d)
  class_comes c Untouched d h = constants_come c (with_state c Done d) (ClassBecomes Level c Done d h)
  class_comes c (Begun t) d h = h
  class_comes c Done d h = h
  class_comes c Failed d h = h

  pub quietly_comes : (c : ℕ) (d : Doing) → Comes e StringsAlone Level d → Comes e StringsAlone Level (quietly_done e c d)
  quietly_comes c d h = fold_keeps (λ x. Comes e StringsAlone Level x) (λ x k. class_done e k (state_of x k) x) (λ x k g. class_comes k (state_of x k) x g) (class_at e.program c).init_order d h

  if_untouched_comes : (c : ℕ) (x : ClassState) (d : Doing) → Comes e StringsAlone Level d → Comes e StringsAlone Level (quietly_if_untouched e c x d)
  if_untouched_comes c Untouched d h = quietly_comes c d h
  if_untouched_comes c (Begun t) d h = h
  if_untouched_comes c Done d h = h
  if_untouched_comes c Failed d h = h

  pub prepared_comes : (classes : List ℕ) (d : Doing) → Comes e StringsAlone Level d → Comes e StringsAlone Level (prepared e classes d)
  prepared_comes classes d h = fold_keeps (λ x. Comes e StringsAlone Level x) (λ x k. quietly_if_untouched e k (state_of x k) x) (λ x k g. if_untouched_comes k (state_of x k) x g) classes d h

  -- A CLASS IS NEEDED

  begins_class_leads : (c : ℕ) (d : Doing) → Comes e StringsAlone Level d → Leads e (begins_class e c d)
  begins_class_leads c d h =
      let x : Doing = constants_set e c (with_state c (Begun e.thread) d) in
      where_frame_fits d (ends_event (begun_by e c d)) h (end_leads Shifted (begun_by e c d) (BeginsClass c x (constants_come c (with_state c (Begun e.thread) d) (ClassBecomes Level c (Begun e.thread) d h))))

  needed_leads : (d : Doing) (c : ℕ) (x : ClassState) (go : Doing → Outcome Kept) → Comes e StringsAlone Level d → ((y : Doing) → Comes e StringsAlone Level y → Leads e (go y)) → Leads e (needed e d c x go)
  needed_leads d c Done go h g = g d h
  needed_leads d c (Begun t) go h g = if_case (Leads e) (t == e.thread) (go d) (waits e) (g d h) refl
  needed_leads d c Failed go h g = throws_lead NoClassDefFoundError d h
  needed_leads d c Untouched go h g = if_case (Leads e) (is_quiet e d c) (go (quietly_done e c d)) (begins_class e c d) (g (quietly_done e c d) (quietly_comes c d h)) (begins_class_leads c d h)

  pub initialized_leads : (d : Doing) (c : ℕ) (go : Doing → Outcome Kept) → Comes e StringsAlone Level d → ((y : Doing) → Comes e StringsAlone Level y → Leads e (go y)) → Leads e (initialized e d c go)
  initialized_leads d c go h g = needed_leads d c (state_of d c) go h g
