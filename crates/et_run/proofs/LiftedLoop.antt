-- Instructions over lifted frames, as a loop does them.
use Rattle.std.proofs.Common.{◌≡◌, ℕ, ◌+◌, ◌-◌, ◌*◌, ◌<◌, ◌≤◌, ◌^◌, List, [], length, Contains, true, refl, sym, ap, subst, ◌∙◌, add-one, arith}
use Rattle.std.specs.Prelude.{slice_index}
use Rattle.et_heap.specs.Objects.{Objects}
use Rattle.et_heap.proofs.HeapLists.{held_within}
use Rattle.et_program.specs.Entries.{Linked}
use Rattle.et_program.specs.declared.info.MethodInfo.{MethodInfo}
use Rattle.et_state.specs.declared.stage.Turn.TheVariants.{Instruction}
use Rattle.et_state.specs.Running.{RunningState}
use Rattle.et_state.specs.ThreadRoots.{frame_roots}
use Rattle.et_state.specs.Threads.{FrameState, turn_of}
use Rattle.et_state.specs.State.{MachineState, kept_of}
use Rattle.et_state.specs.Words.{IsUnended, thread_at, top}
use Rattle.et_event.specs.FrameSteps.{AreFrameSteps}
use Rattle.et_event.specs.Runnable.{IsRunnable}
use Rattle.et_event.specs.Sites.{code_of_frame, present_body, running_method}
use Rattle.et_event.specs.Sound.{IsSoundFor}
use Rattle.et_event.proofs.Running.{has_frame_there}
use Rattle.et_refs.specs.Reads.{IsReadable}
use Rattle.et_refs.specs.Steps.{StepsOver}
use Rattle.et_refs.proofs.Lifting.{readable}
use Rattle.et_run.specs.Lifted.{AreStampedSteps, IsStampedStep}
use Rattle.et_run.proofs.FrameKept.{Stays}
use Rattle.et_run.proofs.Lifting.{FramesOver, frames_over, one_more, same_method, stays_itself, stays_on, steps_behind}
use Rattle.et_run.proofs.Soundly.{EventsLeadToSound, Stands, after, stands, top_now, turn_now}

-- the objects as they were and are, the frame as it was lifted, those below it, and what runs now
pub record SoFar (p : Linked) (was heap : Objects) (e most count : ℕ) (first : FrameState) (below : List FrameState) (now : RunningState) (old new : List ℕ) (before visited : ℕ) : Type 0 where
  pub steps : AreStampedSteps p count e was heap first now.frame old new
  pub same_below : now.below ≡ below
  pub few : count ≤ most
  pub stays : Stays first now.frame
  pub long : length new ≡ length old
  pub visits : visited ≤ before + 4 * count

pub so_far_none : (p : Linked) (was heap : Objects) (e most : ℕ) (first : FrameState) (below : List FrameState) (now : RunningState) (old : List ℕ) (before : ℕ) → heap ≡ was → now.frame ≡ first → now.below ≡ below → SoFar p was heap e most 0 first below now old old before before
unfolding AreStampedSteps
so_far_none p was heap e most first below now old before here same under = record {
  steps = (here, same, refl);
  same_below = under;
  few = omega arith;
  stays = stays_itself first now.frame same;
  long = refl;
  visits = omega arith;
}

module _ {p : Linked} {was heap : Objects} {e most count : ℕ} {first : FrameState} {below : List FrameState} {now : RunningState} {old between : List ℕ} {before visits : ℕ} (so : SoFar p was heap e most count first below now old between before visits) where
  pub method_now : (m : MethodInfo) → m ≡ running_method p first → m ≡ running_method p now.frame
  method_now m is = is ∙ sym (same_method p first now.frame so.stays)

  -- so many of the frame alone
  pub so_far_frames : (m : MethodInfo) (code : List ℕ) (k : ℕ) (next : RunningState) (new : List ℕ) → m ≡ running_method p first → code ≡ (present_body m.code).code → k ≤ most - count → next.below ≡ now.below
      → AreFrameSteps code k (e + count) now.frame next.frame between new → SoFar p was heap e most (count + k) first below next old new before visits
  so_far_frames m code k next new is bytes few under h =
      let same : code ≡ (code_of_frame p now.frame).code = bytes ∙ ap (λ (x : MethodInfo). (present_body x.code).code) (method_now m is) in
      let o : FramesOver p heap k (e + count) now.frame next.frame between new = frames_over p heap code k (e + count) now.frame next.frame between new same h in
      record {
        steps = steps_behind p k count e was heap heap first now.frame next.frame old between new so.steps o.steps;
        same_below = under ∙ so.same_below;
        few = omega (arith, so.few, few);
        stays = stays_on first now.frame next.frame so.stays o.stays;
        long = o.long ∙ so.long;
        visits = omega (arith, so.visits);
      }

  -- one more
  pub so_far_more : (heap' : Objects) (next : RunningState) (new : List ℕ) (after : ℕ) → StepsOver p heap heap' true now next → count < most → ((o : ℕ) → Contains next.lost o → slice_index new o ≡ e + count)
      → ((o : ℕ) → ¬ Contains next.lost o → slice_index new o ≡ slice_index between o) → length new ≡ length between → after ≤ visits + 4 → SoFar p was heap' e most (count + 1) first below next old new before after
  so_far_more heap' next new after step lt stamped kept long few =
      let s : IsStampedStep p heap heap' (e + count) now.frame next.frame between new = record { lost = next.lost; step = step.1; stamped = stamped; kept = kept; long = long } in
      record {
        steps = subst (λ (n : ℕ). AreStampedSteps p n e was heap' first next.frame old new) (sym (add-one count)) (one_more p count e was heap heap' first now.frame next.frame old between new so.steps s);
        same_below = step.0 ∙ so.same_below;
        few = omega (arith, lt);
        stays = stays_on first now.frame next.frame so.stays step.1.stays;
        long = long ∙ so.long;
        visits = omega (arith, so.visits, few);
      }

  -- FROM A SOUND MACHINE
  module _ (m : MachineState) (t : ℕ) (sound : IsSoundFor p (kept_of m)) (runnable : IsRunnable p) (thread : IsUnended m.guest t) (turn : turn_of (thread_at m.guest t) ≡ Instruction) (leads_sound : EventsLeadToSound)
      (objects : was ≡ m.heap) (frame : first ≡ top m.guest t) (time : e ≡ m.guest.clock) (early : m.guest.clock + most ≤ 2 ^ 40) where
    stands_now : Stands p (kept_of m) t old sound runnable thread turn leads_sound count heap now.frame
    stands_now =
        let steps : AreStampedSteps p count m.guest.clock m.heap heap (top m.guest t) now.frame old between =
        subst (λ (n : ℕ). AreStampedSteps p count n m.heap heap (top m.guest t) now.frame old between) time
        (subst (λ (f : FrameState). AreStampedSteps p count e m.heap heap f now.frame old between) frame (subst (λ (h : Objects). AreStampedSteps p count e h heap first now.frame old between) objects so.steps)) in
        stands p (kept_of m) t old sound runnable thread turn leads_sound count heap now.frame between (omega (arith, so.few, early)) steps

    -- the frame that runs may be read
    pub readable_now : IsReadable p heap now.frame
    readable_now =
        let s = after (kept_of m) t count heap now.frame in
        let n : MachineState = record { heap = heap; guest = s.guest; lost = [] } in
        let has = has_frame_there s.guest t (turn_now (kept_of m) t thread turn count heap now.frame stands_now.stays) in
        subst (λ (f : FrameState). IsReadable p heap f) (top_now (kept_of m) t thread turn count heap now.frame stands_now.stays) (readable p n t has stands_now.sound)

    -- what stands in it has a place among the stamps
    pub frame_places : length m.heap ≤ length old → (o : ℕ) → Contains (frame_roots now.frame) o → o < length between
    frame_places places o c =
        let lt = held_within heap o (readable_now.frame o c) in
        omega (arith, lt, places, stands_now.made, so.long)

    -- .. and so has what it loses
    pub lost_places : length m.heap ≤ length old → (heap' : Objects) (next : RunningState) → StepsOver p heap heap' true now next → (o : ℕ) → Contains next.lost o → o < length between
    lost_places places heap' next step o c = frame_places places o (step.1.moves.was o c)
