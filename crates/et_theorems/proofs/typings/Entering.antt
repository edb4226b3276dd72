-- A thread is entered, and an initializer goes on.
use Rattle.std.proofs.Common.{◌≡◌, ℕ, ◌<◌, ◌==◌, Bool, true, false, List, [], ◌∷◌, length, Option, Some, None, IsSome, refl, sym, ◌∙◌, ap, subst, arith, inr, zero, suc}
use Rattle.std.specs.Prelude.{if◌then◌else◌, codes, find, not, take_while, slice_index_or}
use Rattle.std.specs.Str.{bytes_eq}
use Rattle.std.proofs.lemmas.Bool.{eqb-true, false≢true, true≢false, or_right, or_left, or_from}
use Rattle.std.proofs.lemmas.List.{length-set}
use Rattle.et_base.specs.declared.value.Value.{Value}
use Rattle.et_base.specs.declared.value.Value.TheVariants.{Ref}
use Rattle.et_class.specs.Descriptors.{MethodType, after_dimensions, after_name, method_type, types_of}
use Rattle.et_class.specs.Names.{has}
use Rattle.et_class.specs.PoolOperands.Operand.TheVariants as operand
use Rattle.et_class.specs.declared.flags.TheConstants.{NATIVE}
use Rattle.et_code.specs.Bodies.{Body}
use Rattle.et_event.specs.Calls.{enters_first, enters_main, enters_run, entering_frame, entry_arguments, entry_call, is_of_owner}
use Rattle.et_event.specs.Checks.{ill_typed_unless}
use Rattle.et_event.specs.Errors.{class_called}
use Rattle.et_event.specs.Frames.{by_code, frame_entered, method_frame, receiver_of}
use Rattle.et_event.specs.Initialization.{enters_clinit, initialization_step, is_ready, prepared, quietly_if_untouched, state_of, step_by, with_state}
use Rattle.et_event.specs.Moments.{told, with_frame, Doing, Moment, begins, current_frame, ends_event, object_class, thread_of, throws, with_thread_state}
use Rattle.et_event.specs.Monitors.{entered_some, lock_for, may_enter_some}
use Rattle.et_event.specs.Programs.{IsInitializer, is_initializing}
use Rattle.et_event.specs.Sites.{present_body}
use Rattle.et_event.specs.Sound.{HasThreadObject}
use Rattle.et_event.specs.declared.errors.GuestError.TheVariants as errors
use Rattle.et_program.specs.Entries.{class_at, is_static, method_at}
use Rattle.et_program.specs.Resolution.{resolve_method, select}
use Rattle.et_history.proofs.soundness.Entering.{thread_now}
use Rattle.et_history.proofs.soundness.Initializing.{all_done}
use Rattle.et_history.proofs.soundness.Resolving.{resolved_method, selected_method}
use Rattle.et_history.specs.soundness.Methods.{IsInstanceMethod, IsMethod}
use Rattle.et_history.specs.soundness.WellFormed.{IsWellFormed}
use Rattle.et_state.specs.Outcome.{Outcome}
use Rattle.et_state.specs.State.{Kept}
use Rattle.et_state.specs.Threads.{FrameState, ThreadState, as_entered, clinit_stage, entered_by, in_clinit, no_thread, rest_of, turn_of, with_top_of, without_top}
use Rattle.et_state.specs.Words.{thread_at}
use Rattle.et_state.specs.declared.class_state.ClassState.{ClassState}
use Rattle.et_state.specs.declared.class_state.ClassState.TheVariants.{Begun, Done, Failed, Untouched}
use Rattle.et_state.specs.declared.records.Record.TheVariants.{Enter}
use Rattle.et_state.specs.declared.stage.Stage.{Stage}
use Rattle.et_state.specs.declared.stage.Stage.TheVariants.{Before}
use Rattle.et_state.specs.declared.stage.Turn.TheVariants.{Entry}
use Rattle.et_theorems.specs.typings.Refused.{IsRefused}
use Rattle.et_theorems.specs.typings.Typed.{AreTypedFrames, Holds, IsTypedThread, Typings, UnderCall, Whole, part_below, part_of}
use Rattle.et_theorems.proofs.typings.CallRows.{begins_typed, some_threads}
use Rattle.et_theorems.proofs.typings.Own.{AsBefore, LeavesTyped, Own, ends_leave, first_typed, same_thread, started_still, thread_own}
use Rattle.et_theorems.proofs.typings.Ways.{Calm, begun_well, throws_here, unless_thrown, unless_waiting, where_frame_fits, where_initialized, where_resolved}

-- THE DESCRIPTORS of main and run

abbrev main_typed : MethodType
main_typed = record { parameters = codes "[Ljava/lang/String;" ∷ []; returned = codes "V" }

abbrev pub void_typed : MethodType
void_typed = record { parameters = []; returned = codes "V" }

main_is : method_type (codes "([Ljava/lang/String;)V") ≡ Some main_typed
unfolding types_of after_dimensions after_name
main_is = refl

pub void_is : method_type (codes "()V") ≡ Some void_typed
unfolding types_of after_dimensions after_name
void_is = refl

module _ (e : Moment) (typings : Typings) (calm : Calm e typings) where
  abbrev P : Outcome Kept → Type 0
  P o = LeavesTyped e typings o

  -- A THREAD IS ENTERED

  first_own : (k : ℕ) (body : Body) (arguments : List Value) (d : Doing) → (thread_of e).frames ≡ [] → AsBefore e d → Holds (typings k) (method_frame e.program k body arguments) → Own e typings (frame_entered e k body arguments (entering_frame e d))
  first_own k body arguments d bare same first =
      let new : FrameState = method_frame e.program k body arguments in
      let y : Doing = entering_frame e d in
      let x : Doing = entered_some e (lock_for (method_at e.program k) (receiver_of e.program k arguments)) y in
      let started : e.thread < length d.state.guest.threads = started_still e d calm.started same in
      let t : ThreadState = as_entered (thread_at d.state.guest e.thread) in
      let now : thread_at x.state.guest e.thread ≡ t =
      ap (λ (ts : List ThreadState). slice_index_or ts e.thread no_thread) (some_threads e (lock_for (method_at e.program k) (receiver_of e.program k arguments)) y) ∙ thread_now e t d.state.guest.threads started in
      let inside : e.thread < length x.state.guest.threads =
      omega (arith, started, length-set d.state.guest.threads e.thread t, ap length (some_threads e (lock_for (method_at e.program k) (receiver_of e.program k arguments)) y)) in
      thread_own e typings (entered_by new (thread_at x.state.guest e.thread)) x inside
      (subst (λ (z : ThreadState). IsTypedThread e.program typings (entered_by new z)) (sym now)
      (subst (λ (z : ThreadState). IsTypedThread e.program typings (entered_by new (as_entered z))) (sym (same_thread e d same))
      (subst (λ (o : Option ℕ). AreTypedFrames e.program typings (part_of o) (new ∷ (thread_of e).frames)) (sym calm.none)
      (first, subst (λ (fs : List FrameState). AreTypedFrames e.program typings UnderCall fs) (sym bare) tt))))

  first_typed_event : (k : ℕ) (arguments : List Value) (d : Doing) → (thread_of e).frames ≡ [] → AsBefore e d → ((body : Body) → (method_at e.program k).code ≡ Some body → Holds (typings k) (method_frame e.program k body arguments)) → P (enters_first e d arguments k)
  first_typed_event k arguments d bare same holds = by (method_at e.program k).code refl
    where
      by : (o : Option Body) → (method_at e.program k).code ≡ o → P (by_code e d (entering_frame e) k arguments (throws e errors.AbstractMethodError d) o)
      by (Some body) q =
          unless_waiting e typings calm (may_enter_some e d (lock_for (method_at e.program k) (receiver_of e.program k arguments))) _
          (where_frame_fits e typings calm d _ same (ends_leave e typings (frame_entered e k body arguments (entering_frame e d)) (first_own k body arguments d bare same (holds body q))))
      by None q = unless_thrown e typings calm d errors.UnsatisfiedLinkError (not (has (method_at e.program k).flags NATIVE)) _ same (λ b. throws_here e typings calm errors.AbstractMethodError d same)

  main_entered : (thread_of e).frames ≡ [] → (o : ℕ) → (thread_of e).entry ≡ Some o → P (enters_main e)
  main_entered bare o entry =
      where_initialized e typings calm (method_at e.program e.program.main).class (begins e) _ refl (begun_well e typings calm) (λ d same well.
      subst (λ (x : Option ℕ). P (enters_first e d (entry_arguments x) e.program.main)) (sym entry)
      (first_typed_event e.program.main (Ref o ∷ []) d bare same (λ body code.
      begins_typed e typings e.program.main body main_typed true (operand.Reference ∷ []) (Ref o ∷ []) calm.kinds calm.may.methods.main code (ap method_type calm.may.methods.main_type ∙ main_is) refl
      (or_left (is_static e.program e.program.main) (is_initializing e.program e.program.main) calm.may.methods.main_static) refl)))

  run_entered : (thread_of e).frames ≡ [] → turn_of (thread_of e) ≡ Entry → (o : ℕ) → (thread_of e).object ≡ Some o → P (enters_run e (Some o))
  run_entered bare turn o object =
      let thread : ℕ = class_called e.program (codes "java/lang/Thread") in
      where_resolved e typings calm (begins e) (resolve_method e.program (class_called e.program (codes "java/lang/Thread")) false (codes "run") (codes "()V")) _ refl (λ n found.
      let is : IsMethod e.program (codes "run") (codes "()V") n = resolved_method e.program (class_called e.program (codes "java/lang/Thread")) false (codes "run") (codes "()V") n found in
      refused_or (is_of_owner e (begins e) n o) _ (λ other. inr (record { enters = turn; object = o; has = object; method = n; found = found; other = other }))
      (where_resolved e typings calm (begins e) (select e.program (object_class (begins e) o) n false) _ refl (λ k chosen.
      let instance : IsInstanceMethod e.program (method_at e.program n).name (method_at e.program n).descriptor k = selected_method e.program (object_class (begins e) o) n false k is.within (calm.may.run n found) chosen in
      first_typed_event k (Ref o ∷ []) (begins e) bare refl (λ body code.
      begins_typed e typings k body void_typed false [] (Ref o ∷ []) calm.kinds instance.method.within code (ap method_type (instance.method.descriptor ∙ is.descriptor) ∙ void_is) refl
      (or_from (is_static e.program k) (is_initializing e.program k) instance.instance (ap (λ (name : List ℕ). bytes_eq name (codes "<clinit>")) (instance.method.named ∙ is.named))) refl))))
    where
      refused_or : (b : Bool) (go : Outcome Kept) → (b ≡ false → IsRefused e) → P go → P (ill_typed_unless e b go)
      refused_or true go fails h = h
      refused_or false go fails h = fails refl

  pub entry_typed : (thread_of e).frames ≡ [] → turn_of (thread_of e) ≡ Entry → (thread_of e).entered ≡ false → (thread_of e).ended ≡ false → P (entry_call e)
  entry_typed bare turn fresh unended = by (e.thread == 0) refl
    where
      object_there : (o : Option ℕ) → (thread_of e).object ≡ o → HasThreadObject e.program e.before o → P (enters_run e o)
      object_there None q h = absurd h
      object_there (Some o) q h = run_entered bare turn o q

      some_entry : (o : Option ℕ) → (thread_of e).entry ≡ o → IsSome o → P (enters_main e)
      some_entry None q h = absurd (false≢true h)
      some_entry (Some o) q h = main_entered bare o q

      by : (b : Bool) → (e.thread == 0) ≡ b → P (if b then enters_main e else enters_run e (thread_of e).object)
      by true q =
          let zero_is : e.thread ≡ 0 = eqb-true e.thread 0 q in
          some_entry (thread_of e).entry refl
          (subst (λ (t : ℕ). IsSome (thread_at e.before.guest t).entry) (sym zero_is)
          (calm.sound.entry (subst (λ (t : ℕ). (thread_at e.before.guest t).entered ≡ false) zero_is fresh) (subst (λ (t : ℕ). (thread_at e.before.guest t).ended ≡ false) zero_is unended)))
      by false q =
          object_there (thread_of e).object refl ((calm.sound.threads e.thread calm.started).object (above e.thread q) unended)
        where
          above : (n : ℕ) → (n == 0) ≡ false → 0 < n
          above zero r = absurd (true≢false r)
          above (suc n) r = omega arith

  -- AN INITIALIZER GOES ON

  record Prepared (d : Doing) : Type 0 where
    same : AsBefore e d
    well : IsWellFormed e.program d.state

  quietly_so : (c : ℕ) (st : ClassState) (d : Doing) → Prepared d → Prepared (quietly_if_untouched e c st d)
  quietly_so c Untouched d h =
      let on = all_done e (class_at e.program c).init_order d calm.may.initializers calm.may.makes (calm.may.initializers.orders c) h.well in
      record { same = on.further.threads ∙ h.same; well = on.further.well }
  quietly_so c (Begun t) d h = h
  quietly_so c Done d h = h
  quietly_so c Failed d h = h

  prepared_so : (cs : List ℕ) (d : Doing) → Prepared d → Prepared (prepared e cs d)
  prepared_so [] d h = h
  prepared_so (c ∷ cs) d h = prepared_so cs (quietly_if_untouched e c (state_of d c) d) (quietly_so c (state_of d c) d h)

  -- nothing of the thread changed
  still_own : (d : Doing) → AsBefore e d → Own e typings d
  still_own d same =
      subst (λ (x : ThreadState). IsTypedThread e.program typings x) (sym (same_thread e d same)) (subst (λ (o : Option ℕ). AreTypedFrames e.program typings (part_of o) (thread_of e).frames) (sym calm.none) calm.frames)

  module _ (c : ℕ) (framed : 0 < length (thread_of e).frames) (stage : (current_frame e).stage ≡ Before c) where
    below : AreTypedFrames e.program typings Whole (rest_of (thread_of e).frames)
    below = subst (λ (s : Stage). AreTypedFrames e.program typings (part_below s) (rest_of (thread_of e).frames)) stage (first_typed e.program typings Whole (thread_of e).frames framed calm.frames).1

    done_own : (d : Doing) → AsBefore e d → Own e typings (with_thread_state e (without_top (thread_at d.state.guest e.thread)) (with_state c Done d))
    done_own d same =
        thread_own e typings (without_top (thread_at d.state.guest e.thread)) (with_state c Done d) (started_still e d calm.started same)
        (subst (λ (x : ThreadState). IsTypedThread e.program typings (without_top x)) (sym (same_thread e d same))
        (subst (λ (o : Option ℕ). AreTypedFrames e.program typings (part_of o) (rest_of (thread_of e).frames)) (sym calm.none) below))

    clinit_own : (k : ℕ) (d : Doing) → AsBefore e d → Holds (typings k) (in_clinit k (present_body (method_at e.program k).code).max_stack (present_body (method_at e.program k).code).max_locals (current_frame e))
        → Own e typings (with_thread_state e (with_top_of (thread_at d.state.guest e.thread) (in_clinit k (present_body (method_at e.program k).code).max_stack (present_body (method_at e.program k).code).max_locals (current_frame e))) d)
    clinit_own k d same h =
        let f : FrameState = in_clinit k (present_body (method_at e.program k).code).max_stack (present_body (method_at e.program k).code).max_locals (current_frame e) in
        let under : AreTypedFrames e.program typings (part_below f.stage) (rest_of (thread_of e).frames) = subst (λ (s : Stage). AreTypedFrames e.program typings (part_below (clinit_stage s)) (rest_of (thread_of e).frames)) (sym stage) below in
        thread_own e typings (with_top_of (thread_at d.state.guest e.thread) f) d (started_still e d calm.started same)
        (subst (λ (x : ThreadState). IsTypedThread e.program typings (with_top_of x f)) (sym (same_thread e d same))
        (subst (λ (o : Option ℕ). AreTypedFrames e.program typings (part_of o) (f ∷ rest_of (thread_of e).frames)) (sym calm.none) (h, under)))

    enters_typed : (o : Option ℕ) (d : Doing) → c < length e.program.classes → (class_at e.program c).info.clinit ≡ o → AsBefore e d → P (enters_clinit e c o d)
    enters_typed None d lt q same = ends_leave e typings (with_thread_state e (without_top (thread_at d.state.guest e.thread)) (with_state c Done d)) (done_own d same)
    enters_typed (Some k) d lt q same =
        let i : IsInitializer e.program k = calm.may.initializers.clinits c k lt q in
        let named = calm.kinds.initializers c k lt q in
        let h : Holds (typings k) (method_frame e.program k i.body []) =
        begins_typed e typings k i.body void_typed true [] [] calm.kinds i.method i.code (ap method_type named.1 ∙ void_is) refl (or_right (is_static e.program k) (is_initializing e.program k) named.0) refl in
        let first : Holds (typings k) (in_clinit k i.body.max_stack i.body.max_locals (current_frame e)) = record { types = h.types; at_pc = h.at_pc; locals = h.locals; operands = h.operands } in
        ends_leave e typings (told (Enter d.state.guest.clock e.thread k 0) (with_frame e (in_clinit k (present_body (method_at e.program k).code).max_stack (present_body (method_at e.program k).code).max_locals (current_frame e)) d))
        (clinit_own k d same (subst (λ (b : Body). Holds (typings k) (in_clinit k b.max_stack b.max_locals (current_frame e))) (sym (ap present_body i.code)) first))

    pub step_typed : c < length e.program.classes → P (initialization_step e c)
    step_typed lt =
        let cs : List ℕ = (class_at e.program c).info.prerequisites in
        let d : Doing = prepared e (take_while (is_ready e (begins e)) cs) (begins e) in
        let h : Prepared (prepared e (take_while (is_ready e (begins e)) (class_at e.program c).info.prerequisites) (begins e)) = prepared_so (take_while (is_ready e (begins e)) cs) (begins e) (record { same = refl; well = begun_well e typings calm }) in
        by (prepared e (take_while (is_ready e (begins e)) (class_at e.program c).info.prerequisites) (begins e)) h (find (λ k. not (is_ready e (begins e) k)) cs)
      where
        by : (d : Doing) → Prepared d → (o : Option ℕ) → P (step_by e c d o)
        by d h (Some k) = where_initialized e typings calm k d ends_event h.same h.well (λ x same well. ends_leave e typings x (still_own x same))
        by d h None = enters_typed (class_at e.program c).info.clinit d lt refl h.same
