-- Instructions over lifted frames lead from sound states to sound ones.
use Rattle.std.proofs.Common.{◌≡◌, ℕ, zero, suc, ◌+◌, ◌<◌, ◌≤◌, ◌^◌, Bool, true, false, List, [], length, get_or-set_same, sym, ◌∙◌, ap, subst, arith}
use Rattle.std.specs.Prelude.{if◌then◌else◌}
use Rattle.std.specs.Option.{is_some}
use Rattle.std.proofs.lemmas.List.{length-set}
use Rattle.et_heap.specs.Objects.{Objects}
use Rattle.et_program.specs.Entries.{Linked}
use Rattle.et_state.specs.declared.stage.Stage.{Stage}
use Rattle.et_state.specs.declared.stage.Turn.TheVariants.{Unwind, EndThread, Entry, Initialize, Instruction}
use Rattle.et_state.specs.Outcome.{Outcome, Goes}
use Rattle.et_state.specs.Running.{passed}
use Rattle.et_state.specs.Spoken.{silent}
use Rattle.et_state.specs.State.{GuestState, Kept}
use Rattle.et_state.specs.Threads.{FrameState, ThreadState, no_thread, is_before_class, top_of, turn_of, with_top_of}
use Rattle.et_state.specs.Words.{IsUnended, thread_at, ticked, top, with_top}
use Rattle.et_state.proofs.Steps.{top-with_top, with_top-itself, with_top-with_top}
use Rattle.et_event.specs.Runnable.{IsRunnable}
use Rattle.et_event.specs.Sound.{IsSoundFor}
use Rattle.et_event.specs.Told.{event_with_texts, keeping}
use Rattle.et_event.proofs.Told.{of-table}
use Rattle.et_event.proofs.Running.{has_frame_there}
use Rattle.et_history.specs.steps.Changing.{LeadsToSound}
use Rattle.et_history.specs.steps.EachEvent.{OfEachEvent}
use Rattle.et_refs.specs.Steps.{Instructs, IsStepOver}
use Rattle.et_run.specs.Lifted.{AreStampedSteps, IsStampedStep}
use Rattle.et_run.proofs.FrameKept.{Stays}
use Rattle.et_run.proofs.Lifting.{stays_itself, stays_on}

-- a thread of whose topmost frame the stage stays does an instruction next
still_instructs : (pending has before entered : Bool) → (if pending then (if has then Unwind else EndThread) else (if has then (if before then Initialize else Instruction) else (if entered then EndThread else Entry))) ≡ Instruction → (if pending then Unwind else (if before then Initialize else Instruction)) ≡ Instruction
still_instructs true true before entered e = cc
still_instructs true false before entered e = cc
still_instructs false true before entered e = e
still_instructs false false before true e = cc
still_instructs false false before false e = cc

turn_stays : (x : ThreadState) (f : FrameState) → turn_of x ≡ Instruction → f.stage ≡ (top_of x).stage → turn_of (with_top_of x f) ≡ Instruction
turn_stays x f turn same =
    ap (λ (st : Stage). if is_some x.pending then Unwind else (if is_before_class st then Initialize else Instruction)) same
    ∙ still_instructs (is_some x.pending) _ (is_before_class (top_of x).stage) x.entered turn

-- events lead from sound states to sound ones
abbrev pub EventsLeadToSound : Type 0
EventsLeadToSound = OfEachEvent (λ p s t. s.guest.clock < 2 ^ 40 → LeadsToSound p (event_with_texts p s t))

-- the state after k of them
abbrev pub after : Kept → ℕ → ℕ → Objects → FrameState → Kept
after s t k heap f = record { heap = heap; guest = with_top (passed k s.guest) t f }

module _ (s : Kept) (t : ℕ) (thread : IsUnended s.guest t) (turn : turn_of (thread_at s.guest t) ≡ Instruction) where
  pub before_all : after s t 0 s.heap (top s.guest t) ≡ s
  before_all =
      let now : s.guest.clock + 0 ≡ s.guest.clock = omega arith in
      ap (λ (n : ℕ). record { heap = s.heap; guest = with_top (record s.guest { clock = n }) t (top s.guest t) }) now
      ∙ ap (λ (g : GuestState). record { heap = s.heap; guest = g }) (with_top-itself s.guest t (has_frame_there s.guest t turn))

  pub none_after : (heap : Objects) (f : FrameState) → heap ≡ s.heap → f ≡ top s.guest t → after s t 0 heap f ≡ s
  none_after heap f same e = ap (λ (h : Objects). after s t 0 h f) same ∙ (ap (λ (x : FrameState). after s t 0 s.heap x) e ∙ before_all)

  -- the thread does an instruction there
  module _ (k : ℕ) (heap : Objects) (f : FrameState) (stays : Stays (top s.guest t) f) where
    pub top_now : top (after s t k heap f).guest t ≡ f
    top_now = top-with_top (passed k s.guest) t f thread.thread

    thread_now : thread_at (after s t k heap f).guest t ≡ with_top_of (thread_at s.guest t) f
    thread_now = get_or-set_same s.guest.threads t (with_top_of (thread_at s.guest t) f) no_thread thread.thread

    pub turn_now : turn_of (thread_at (after s t k heap f).guest t) ≡ Instruction
    turn_now = ap (λ (x : ThreadState). turn_of x) thread_now ∙ turn_stays (thread_at s.guest t) f turn (ap (λ (x : FrameState). x.stage) stays)

    pub unended_now : IsUnended (after s t k heap f).guest t
    unended_now =
        let long = length-set s.guest.threads t (with_top_of (thread_at s.guest t) f) in
        record { thread = omega (arith, long, thread.thread); unended = ap (λ (x : ThreadState). x.ended) thread_now ∙ thread.unended }

    pub instructs : Instructs (after s t k heap f).guest t f
    instructs = record { turn = turn_now; frame = top_now }

    -- .. and leads to the next state
    module _ (p : Linked) (heap' : Objects) (f' : FrameState) (lost : List ℕ) (step : IsStepOver p heap heap' f f' lost) where
      pub grown : with_top (ticked (after s t k heap f).guest) t f' ≡ with_top (passed (suc k) s.guest) t f'
      grown =
          let one : s.guest.clock + k + 1 ≡ s.guest.clock + suc k = omega arith in
          with_top-with_top (ticked (passed k s.guest)) t f f' thread.thread ∙ ap (λ (n : ℕ). with_top (record s.guest { clock = n }) t f') one

      pub leads_now : event_with_texts p (after s t k heap f) t ≡ Goes (after s t (suc k) heap' f') []
      leads_now =
          let g : GuestState = (after s t k heap f).guest in
          let none = step.silent g t instructs in
          of-table p (after s t k heap f) t none.0 none.1 ∙ (ap (λ (o : Outcome Kept). keeping s.guest.texts o) (step.leads (silent (after s t k heap f)).guest t (record { turn = turn_now; frame = top_now }))
          ∙ ap (λ (h : GuestState). Goes (record { heap = heap'; guest = h }) []) grown)

-- SO MANY OF THEM, from a sound state
module _ (p : Linked) (s : Kept) (t : ℕ) (old : List ℕ) (sound_first : IsSoundFor p s) (runnable : IsRunnable p) (thread : IsUnended s.guest t) (turn : turn_of (thread_at s.guest t) ≡ Instruction) (leads_sound : EventsLeadToSound) where
  pub record Stands (k : ℕ) (heap : Objects) (f : FrameState) : Type 0 where
    pub stays : Stays (top s.guest t) f
    pub sound : IsSoundFor p (after s t k heap f)
    pub made : length heap ≡ length s.heap

  one_further : (k : ℕ) (heap heap' : Objects) (f f' : FrameState) (between new : List ℕ) → s.guest.clock + k < 2 ^ 40 → Stands k heap f → IsStampedStep p heap heap' (s.guest.clock + k) f f' between new → Stands (suc k) heap' f'
  one_further k heap heap' f f' between new early x stamped = record {
    stays = stays_on (top s.guest t) f f' x.stays stamped.step.stays;
    sound = subst (λ (o : Outcome Kept). LeadsToSound p o) (leads_now s t thread turn k heap f x.stays p heap' f' stamped.lost stamped.step)
        (leads_sound p (after s t k heap f) t x.sound (unended_now s t thread turn k heap f x.stays) runnable early);
    made = stamped.step.made ∙ x.made;
  }

  pub stands : (k : ℕ) (heap : Objects) (f : FrameState) (new : List ℕ) → s.guest.clock + k ≤ 2 ^ 40 → AreStampedSteps p k s.guest.clock s.heap heap (top s.guest t) f old new → Stands k heap f
  unfolding AreStampedSteps
  stands zero heap f new early h = record {
    stays = stays_itself (top s.guest t) f h.1;
    sound = subst (λ (x : Kept). IsSoundFor p x) (sym (none_after s t thread turn heap f h.0 h.1)) sound_first;
    made = ap (λ (x : Objects). length x) h.0;
  }
  stands (suc k) heap f new early h = one_further k h.0 heap h.1 f h.2 new (omega (arith, early)) (stands k h.0 h.1 h.2 (omega (arith, early)) h.3) h.4
