-- A step of an initializer.
use Rattle.std.proofs.Common.{◌≡◌, ℕ, ◌<◌, ◌≤◌, ◌^◌, not, List, [], ◌∷◌, length, Option, Some, None, refl, sym, ap, subst}
use Rattle.std.specs.Prelude.{fold, find, take_while}
use Rattle.std.specs.List.{slice_index_or}
use Rattle.et_state.proofs.Steps.{with_first}
use Rattle.et_code.specs.Bodies.{Body}
use Rattle.et_program.specs.Entries.{Linked, class_at, method_at}
use Rattle.et_state.specs.declared.stage.Stage.TheVariants.{Before}
use Rattle.et_state.specs.Threads.{FrameState, ThreadState, no_thread, first_frame, rest_of, with_top_of, in_clinit, without_top, most_frames}
use Rattle.et_state.specs.declared.class_state.ClassState.{ClassState}
use Rattle.et_state.specs.declared.class_state.ClassState.TheVariants.{Untouched, Begun, Done, Failed}
use Rattle.et_state.specs.Words.{thread_at, HasFrame}
use Rattle.et_state.specs.declared.records.Record.TheVariants.{Enter}
use Rattle.et_event.specs.Initialization.{state_of, with_state, is_ready, quietly_if_untouched, prepared, enters_clinit, step_by, initialization_step}
use Rattle.et_event.specs.Moments.{Moment, Doing, told, current_frame, begins, with_frame, with_thread_state, ends_event}
use Rattle.et_event.specs.Sites.{present_body}
use Rattle.et_event.specs.Sound.{AreSoundFrames, IsSoundFor}
use Rattle.et_history.specs.soundness.Outcomes.{KeepsSound}
use Rattle.et_event.specs.Programs.{MakesSound, HasInitializers, IsInitializer}
use Rattle.et_history.specs.soundness.WellFormed.{IsWellFormed, IsFurther}
use Rattle.et_history.proofs.soundness.Frames.{clinit_frames}
use Rattle.et_history.proofs.soundness.Finding.{find_holds}
use Rattle.et_history.proofs.soundness.Initializing.{further_itself, further_then, all_done, initialized_sound, not_done}
use Rattle.et_history.proofs.soundness.Monitors.{class_well}
use Rattle.et_history.proofs.soundness.Outcomes.{begins_well, ends_sound}
use Rattle.et_history.proofs.soundness.Steps.{dropped_well}
use Rattle.et_history.proofs.soundness.Threads.{with_thread_well, may_have_frames}

-- THE PREREQUISITES

quietly_by : (e : Moment) (c : ℕ) (st : ClassState) (d : Doing) → HasInitializers e.program → MakesSound e.program → IsWellFormed e.program d.state → IsFurther e d (quietly_if_untouched e c st d)
quietly_by e c Untouched d initializers makes h = (all_done e (class_at e.program c).init_order d initializers makes (initializers.orders c) h).further
quietly_by e c (Begun t) d initializers makes h = further_itself e d h
quietly_by e c Done d initializers makes h = further_itself e d h
quietly_by e c Failed d initializers makes h = further_itself e d h

prepared_by : (e : Moment) (cs : List ℕ) (d : Doing) → HasInitializers e.program → MakesSound e.program → IsWellFormed e.program d.state → IsFurther e d (fold (λ x k. quietly_if_untouched e k (state_of x k) x) d cs)
prepared_by e [] d initializers makes h = further_itself e d h
prepared_by e (c ∷ cs) d initializers makes h =
    let x : Doing = quietly_if_untouched e c (state_of d c) d in
    let one : IsFurther e d x = quietly_by e c (state_of d c) d initializers makes h in
    further_then e d x (fold (λ y k. quietly_if_untouched e k (state_of y k) y) x cs) one (prepared_by e cs x initializers makes one.well)

-- <clinit> IS ENTERED, or there is none and the class is done

module _ (e : Moment) (c : ℕ) (d : Doing) (sound : IsSoundFor e.program e.before) (has : HasFrame e.before.guest e.thread) (stage : (current_frame e).stage ≡ Before c) (lt : c < length e.program.classes) (f : IsFurther e (begins e) d) where
  threads_are : d.state.guest.threads ≡ e.before.guest.threads
  threads_are = f.threads

  thread_there : e.thread < length d.state.guest.threads
  thread_there = subst (λ (ts : List ThreadState). e.thread < length ts) (sym threads_are) has.thread

  pub class_done_sound : KeepsSound e.program (enters_clinit e c None d)
  class_done_sound =
      let x : Doing = with_state c Done d in
      let well : IsWellFormed e.program x.state = class_well e.program c Done d f.well lt tt not_done in
      ends_sound e.program (with_thread_state e (without_top (thread_at d.state.guest e.thread)) x) (dropped_well e.program e x well thread_there)

  pub entered_sound : (m : ℕ) → IsInitializer e.program m → KeepsSound e.program (enters_clinit e c (Some m) d)
  entered_sound m is =
      let p : Linked = e.program in
      let body : Body = present_body (method_at p m).code in
      let same : is.body ≡ body = sym (ap present_body is.code) in
      let t : ThreadState = thread_at d.state.guest e.thread in
      let before : ThreadState = thread_at e.before.guest e.thread in
      let eq : t ≡ before = ap (λ (ts : List ThreadState). slice_index_or ts e.thread no_thread) threads_are in
      let g : FrameState = current_frame e in
      let new : FrameState = in_clinit m body.max_stack body.max_locals g in
      let was = sound.threads e.thread has.thread in
      let first : first_frame before.frames ∷ rest_of before.frames ≡ before.frames = with_first before.frames has.frame in
      let frames : AreSoundFrames p (in_clinit m is.body.max_stack is.body.max_locals g ∷ rest_of before.frames) =
      clinit_frames p c m is.body g (rest_of before.frames) stage is.method is.code is.void (subst (λ (fs : List FrameState). AreSoundFrames p fs) (sym first) was.frames) in
      let now : AreSoundFrames p (new ∷ rest_of before.frames) = subst (λ (b : Body). AreSoundFrames p (in_clinit m b.max_stack b.max_locals g ∷ rest_of before.frames)) same frames in
      let there : AreSoundFrames p (new ∷ rest_of t.frames) = subst (λ (z : ThreadState). AreSoundFrames p (new ∷ rest_of z.frames)) (sym eq) now in
      let few_before : length (new ∷ rest_of before.frames) ≤ most_frames = subst (λ (fs : List FrameState). length fs ≤ most_frames) (sym first) was.few_frames in
      let few : length (new ∷ rest_of t.frames) ≤ most_frames = subst (λ (z : ThreadState). length (new ∷ rest_of z.frames) ≤ most_frames) (sym eq) few_before in
      ends_sound p (told (Enter d.state.guest.clock e.thread m 0) (with_frame e new d)) (with_thread_well p d.state e.thread (with_top_of t new) f.well thread_there (may_have_frames p d.state e.thread (new ∷ rest_of t.frames) f.well thread_there there few))

-- THE STEP
pub step_sound : (e : Moment) (c : ℕ) → IsSoundFor e.program e.before → e.before.guest.clock < 2 ^ 40 → HasFrame e.before.guest e.thread → (current_frame e).stage ≡ Before c → c < length e.program.classes → HasInitializers e.program → MakesSound e.program → KeepsSound e.program (initialization_step e c)
step_sound e c sound clock has stage lt initializers makes =
    let cs : List ℕ = (class_at e.program c).info.prerequisites in
    let d : Doing = prepared e (take_while (is_ready e (begins e)) cs) (begins e) in
    let f : IsFurther e (begins e) d = prepared_by e (take_while (is_ready e (begins e)) cs) (begins e) initializers makes (begins_well e.program e sound clock) in
    by d f (find (λ k. not (is_ready e (begins e) k)) cs) refl
  where
    enters : (d : Doing) → IsFurther e (begins e) d → (o : Option ℕ) → (class_at e.program c).info.clinit ≡ o → KeepsSound e.program (enters_clinit e c o d)
    enters d f None q = class_done_sound e c d sound has stage lt f
    enters d f (Some m) q = entered_sound e c d sound has stage lt f m (initializers.clinits c m lt q)

    by : (d : Doing) → IsFurther e (begins e) d → (o : Option ℕ) → find (λ k. not (is_ready e (begins e) k)) (class_at e.program c).info.prerequisites ≡ o → KeepsSound e.program (step_by e c d o)
    by d f None q = enters d f (class_at e.program c).info.clinit refl
    by d f (Some k) q =
        let inside : k < length e.program.classes = find_holds (λ j. j < length e.program.classes) (λ j. not (is_ready e (begins e) j)) (class_at e.program c).info.prerequisites k (initializers.prerequisites c lt) q in
        initialized_sound e d k ends_event sound clock initializers makes inside (record { well = f.well; thread = subst (λ (ts : List ThreadState). e.thread < length ts) (sym f.threads) has.thread }) (λ x going further touched. ends_sound e.program x going.well)
