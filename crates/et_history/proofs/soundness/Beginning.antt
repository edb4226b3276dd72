-- A thread is entered (JVMS 5.2, JLS 12.1.4): the first one at `main`, each other one at `run` of its Thread object.
use Rattle.std.proofs.Common.{◌≡◌, ℕ, ◌<◌, ◌≤◌, ◌^◌, ◌==◌, ◌||◌, Bool, true, false, not, List, [], ◌∷◌, length, Option, Some, None, refl, sym, ◌∙◌, ap, subst, arith, Contains}
use Rattle.std.specs.Prelude.{IsSome, slice_index_or, option_to_list, codes}
use Rattle.std.specs.Option.{option_map_or}
use Rattle.std.specs.Str.{bytes_eq}
use Rattle.std.proofs.lemmas.Bool.{true≢false}
use Rattle.std.proofs.lemmas.List.{length-set}
use Rattle.std.proofs.lemmas.List.Elements.{Contains-append_right}
use Rattle.std.proofs.lemmas.Option.{same_Some}
use Rattle.et_base.specs.declared.value.Value.{Value}
use Rattle.et_base.specs.declared.value.Value.TheVariants.{Ref}
use Rattle.et_class.specs.Descriptors.{MethodType, method_type, is_void, types_of, after_dimensions, after_name}
use Rattle.et_code.specs.Bodies.{Body}
use Rattle.et_class.specs.Names.{has}
use Rattle.et_class.specs.declared.flags.TheConstants.{NATIVE}
use Rattle.et_base.proofs.Lists.{Contains-here}
use Rattle.et_heap.specs.Objects.{IsHeld}
use Rattle.et_program.specs.Entries.{Linked, method_at, is_static}
use Rattle.et_program.specs.Resolution.{resolve_method, select}
use Rattle.et_state.specs.Threads.{FrameState, ThreadState, no_thread, as_entered, ended_roots}
use Rattle.et_state.specs.Words.{thread_at, IsUnended}
use Rattle.et_state.proofs.Places.{ended_root}
use Rattle.et_event.specs.declared.errors.GuestError.TheVariants.{AbstractMethodError, UnsatisfiedLinkError}
use Rattle.et_event.specs.Calls.{entry_count, entering_frame, entry_arguments, enters_first, enters_main, enters_run, entry_call, is_of_owner}
use Rattle.et_event.specs.Errors.{class_called}
use Rattle.et_event.specs.Frames.{first_reference, receiver_of, method_frame, by_code}
use Rattle.et_event.specs.Moments.{Moment, Doing, thread_of, begins, object_class, throws}
use Rattle.et_event.specs.Monitors.{lock_for}
use Rattle.et_event.specs.Sound.{IsVoid, AreSoundFrames, IsSoundFor}
use Rattle.et_history.specs.soundness.Outcomes.{KeepsSound}
use Rattle.et_event.specs.Programs.{is_initializing}
use Rattle.et_history.specs.soundness.WellFormed.{IsUnderWayAt, MayTake, MayEnter}
use Rattle.et_history.proofs.soundness.Frames.{first_frames}
use Rattle.et_history.proofs.soundness.Outcomes.{if_case, begins_well, throws_sound, unless_ill_typed, unless_thrown, where_resolved}
use Rattle.et_history.proofs.soundness.Threads.{with_thread_well, may_be_entered}
use Rattle.et_history.specs.soundness.Methods.{IsMethod, IsInstanceMethod}
use Rattle.et_event.specs.Runnable.{IsRunnable}
use Rattle.et_history.proofs.soundness.Resolving.{resolved_method, selected_method}
use Rattle.et_history.proofs.soundness.Arguments.{IsLockOf, lock_of}
use Rattle.et_history.proofs.soundness.Entering.{IsOnTime, begins_on_time, object_count, may_enter, thread_now, MayBeEntered, code_sound}
use Rattle.et_history.proofs.soundness.Initialized.{IsReady, where_initialized}

-- THE THREAD counts as entered

entering_going : (e : Moment) (d : Doing) → IsUnderWayAt e d → IsUnderWayAt e (entering_frame e d)
entering_going e d g =
    let x : ThreadState = as_entered (thread_at d.state.guest e.thread) in
    let n : length (entering_frame e d).state.guest.threads ≡ length d.state.guest.threads = length-set d.state.guest.threads e.thread x in
    record {
      well = with_thread_well e.program d.state e.thread x g.well g.thread (may_be_entered e.program d.state e.thread g.well g.thread);
      thread = subst (λ (k : ℕ). e.thread < k) (sym n) g.thread;
    }

entering_frames : (e : Moment) (d : Doing) → IsUnderWayAt e d → (thread_at (entering_frame e d).state.guest e.thread).frames ≡ (thread_at d.state.guest e.thread).frames
entering_frames e d g = ap (λ (x : ThreadState). x.frames) (thread_now e (as_entered (thread_at d.state.guest e.thread)) d.state.guest.threads g.thread)

-- ITS FIRST METHOD

-- a thread without a frame, in a sound state
pub record IsEntry (e : Moment) : Type 0 where
  pub sound : IsSoundFor e.program e.before
  pub clock : e.before.guest.clock < 2 ^ 40
  pub unended : IsUnended e.before.guest e.thread
  pub bare : (thread_of e).frames ≡ []

-- the method takes these arguments, and returns nothing
record IsFirst (p : Linked) (m : ℕ) (arguments : List Value) : Type 0 where
  within : m < length p.methods
  type : MethodType
  typed : method_type (method_at p m).descriptor ≡ Some type
  few : length arguments ≤ entry_count (is_static p m || is_initializing p m) type
  receiver : is_static p m ≡ false → IsSome (first_reference arguments)
  void : is_void type.returned ≡ true

first_sound : (e : Moment) (d : Doing) (arguments : List Value) (m : ℕ) → IsRunnable e.program → IsEntry e → IsReady e d → IsFirst e.program m arguments → MayEnter (entering_frame e d) (lock_for (method_at e.program m) (receiver_of e.program m arguments))
    → KeepsSound e.program (enters_first e d arguments m)
first_sound e d arguments m may is ready first lock = by (method_at e.program m).code refl
  where
    void : (body : Body) → IsVoid e.program (method_frame e.program m body arguments)
    void body = ap (λ (o : Option MethodType). is_void (option_map_or (λ (t : MethodType). t.returned) o [])) first.typed ∙ first.void

    takes : (body : Body) → (method_at e.program m).code ≡ Some body → MayTake e.program m body arguments
    takes body code =
        let room : entry_count (is_static e.program m || is_initializing e.program m) first.type ≤ body.max_locals = may.methods.arguments m body first.type first.within code first.typed in
        record { method = first.within; code = code; few = omega (arith, first.few); receiver = first.receiver }

    no_frames : (thread_at (entering_frame e d).state.guest e.thread).frames ≡ []
    no_frames = entering_frames e d ready.going ∙ (ap (λ (ts : List ThreadState). (slice_index_or ts e.thread no_thread).frames) ready.threads ∙ is.bare)

    by : (o : Option Body) → (method_at e.program m).code ≡ o → KeepsSound e.program (by_code e d (entering_frame e) m arguments (throws e AbstractMethodError d) o)
    by (Some body) q =
        let frames : AreSoundFrames e.program (method_frame e.program m body arguments ∷ (thread_at (entering_frame e d).state.guest e.thread).frames) =
        subst (λ (fs : List FrameState). AreSoundFrames e.program (method_frame e.program m body arguments ∷ fs)) (sym no_frames) (first_frames e.program m body arguments (takes body q) (void body)) in
        let entered : MayBeEntered e m body arguments d (entering_frame e d) = record {
          going = ready.going;
          left = entering_going e d ready.going;
          lock = lock;
          count = ap (λ (fs : List FrameState). length fs) (entering_frames e d ready.going);
          frames = frames;
        } in
        code_sound e d (entering_frame e) m arguments body is.sound is.clock may.makes entered
    by None q = unless_thrown e d UnsatisfiedLinkError (not (has (method_at e.program m).flags NATIVE)) _ may.makes ready.going (λ b. throws_sound e AbstractMethodError d may.makes ready.going)

begins_going : (e : Moment) → IsEntry e → IsUnderWayAt e (begins e)
begins_going e is = record { well = begins_well e.program e is.sound is.clock; thread = is.unended.thread }

-- MAIN

main_typed : method_type (codes "([Ljava/lang/String;)V") ≡ Some (record { parameters = codes "[Ljava/lang/String;" ∷ []; returned = codes "V" })
unfolding types_of after_dimensions after_name
main_typed = refl

few_arguments : (entry : Option ℕ) → length (entry_arguments entry) ≤ 1
few_arguments None = omega arith
few_arguments (Some o) = omega arith

main_sound : (e : Moment) → IsRunnable e.program → IsEntry e → KeepsSound e.program (enters_main e)
main_sound e may is =
    let p : Linked = e.program in
    let m : ℕ = p.main in
    let args : List Value = entry_arguments (thread_of e).entry in
    where_initialized e (method_at p m).class _ is.sound is.clock may.initializers may.makes (may.owners m may.methods.main) (begins_going e is) (λ d ready.
    let x : Doing = entering_frame e d in
    let on : IsOnTime e x = record { clock = ready.on_time.clock; monitors = ready.on_time.monitors } in
    let lock : MayEnter x (lock_for (method_at p m) (receiver_of p m args)) = may_enter e x (lock_for (method_at p m) (receiver_of p m args)) is.sound on
    (λ o locked. let own : IsLockOf p m args o = lock_of p m args o locked in absurd (true≢false (sym may.methods.main_static ∙ own.instance))) in
    let few : length args ≤ 1 = few_arguments (thread_of e).entry in
    let first : IsFirst p m args = record {
      within = may.methods.main;
      type = record { parameters = codes "[Ljava/lang/String;" ∷ []; returned = codes "V" };
      typed = ap method_type may.methods.main_type ∙ main_typed;
      few = subst (λ (b : Bool). length args ≤ entry_count (b || is_initializing p m) (record { parameters = codes "[Ljava/lang/String;" ∷ []; returned = codes "V" })) (sym may.methods.main_static) few;
      receiver = λ instance. absurd (true≢false (sym may.methods.main_static ∙ instance));
      void = refl;
    } in
    first_sound e d args m may is ready first lock)

-- RUN

run_typed : method_type (codes "()V") ≡ Some (record { parameters = []; returned = codes "V" })
unfolding types_of after_dimensions after_name
run_typed = refl

-- the Thread object is held
object_held : (e : Moment) (o : ℕ) → IsEntry e → (thread_of e).object ≡ Some o → IsHeld e.before.heap o
object_held e o is named =
    let x : ThreadState = thread_of e in
    let here : Contains (option_to_list x.object) o = subst (λ (q : Option ℕ). Contains (option_to_list q) o) (sym named) (Contains-here o []) in
    let there : Contains (ended_roots x) o = Contains-append_right (option_to_list x.pending) _ o (Contains-append_right (option_to_list x.entry) (option_to_list x.object) o here) in
    is.sound.held.roots o (ended_root e.before.guest e.thread o is.unended.thread is.unended.unended there)

run_sound : (e : Moment) (object : Option ℕ) → IsRunnable e.program → IsEntry e → (thread_of e).object ≡ object → KeepsSound e.program (enters_run e object)
run_sound e None may is named = tt
run_sound e (Some o) may is named =
    let p : Linked = e.program in
    let g : IsUnderWayAt e (begins e) = begins_going e is in
    let args : List Value = Ref o ∷ [] in
    let held : IsHeld e.before.heap o = object_held e o is named in
    where_resolved e (begins e) (resolve_method p (class_called p (codes "java/lang/Thread")) false (codes "run") (codes "()V")) _ may.makes g (λ m found.
    unless_ill_typed p e (is_of_owner e (begins e) m o) _ (λ own.
    where_resolved e (begins e) (select p (object_class (begins e) o) m false) _ may.makes g (λ k chosen.
    let method : IsMethod p (codes "run") (codes "()V") m = resolved_method p (class_called p (codes "java/lang/Thread")) false (codes "run") (codes "()V") m found in
    let selected : IsInstanceMethod p (method_at p m).name (method_at p m).descriptor k = selected_method p (object_class (begins e) o) m false k method.within (may.run m found) chosen in
    let type : (method_at p k).descriptor ≡ codes "()V" = selected.method.descriptor ∙ method.descriptor in
    let x : Doing = entering_frame e (begins e) in
    let on : IsOnTime e x = record { clock = refl; monitors = refl } in
    let lock : MayEnter x (lock_for (method_at p k) (receiver_of p k args)) = may_enter e x (lock_for (method_at p k) (receiver_of p k args)) is.sound on
    (λ q locked.
    let own_lock : IsLockOf p k args q = lock_of p k args q locked in
    let there : IsHeld e.before.heap q = subst (λ (i : ℕ). IsHeld e.before.heap i) (same_Some o q own_lock.receiver) held in
    (there, object_count e q is.sound there)) in
    let few : length args ≤ 1 = omega arith in
    let named : is_initializing p k ≡ false = ap (λ (name : List ℕ). bytes_eq name (codes "<clinit>")) (selected.method.named ∙ method.named) in
    let flags : (is_static p k || is_initializing p k) ≡ false = ap (λ (b : Bool). b || is_initializing p k) selected.instance ∙ named in
    let first : IsFirst p k args = record {
      within = selected.method.within;
      type = record { parameters = []; returned = codes "V" };
      typed = ap method_type type ∙ run_typed;
      few = subst (λ (b : Bool). length args ≤ entry_count b (record { parameters = []; returned = codes "V" })) (sym flags) few;
      receiver = λ instance. refl;
      void = refl;
    } in
    let ready : IsReady e (begins e) = record { going = g; threads = refl; on_time = begins_on_time e } in
    first_sound e (begins e) args k may is ready first lock)))

pub entry_sound : (e : Moment) → IsRunnable e.program → IsEntry e → KeepsSound e.program (entry_call e)
entry_sound e may is = if_case (KeepsSound e.program) (e.thread == 0) (enters_main e) (enters_run e (thread_of e).object) (main_sound e may is) (run_sound e (thread_of e).object may is refl)
