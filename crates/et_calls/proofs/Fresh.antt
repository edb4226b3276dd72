-- Threads that are to be entered.
use Rattle.std.proofs.Common.{◌≡◌, ℕ, ◌<◌, Bool, true, false, List, [], ◌∷◌, length, get_or, Option, Some, None, refl, sym, ◌∙◌, ap, subst}
use Rattle.std.specs.Prelude.{if◌then◌else◌, is_some}
use Rattle.et_state.specs.declared.stage.Turn.{Turn}
use Rattle.et_state.specs.declared.stage.Turn.TheVariants.{Unwind, EndThread, Entry, Initialize, Instruction}
use Rattle.et_state.specs.Threads.{FrameState, ThreadState, no_thread, has_frame, first_frame, is_before_class, turn_of}
use Rattle.et_state.specs.State.{GuestState, MachineState}
use Rattle.et_state.specs.Words.{thread_at, begun, IsUnended}
use Rattle.et_calls.specs.Fresh.{IsFresh}

-- BY THE TURN

abbrev turn_by : Option ℕ → List FrameState → Bool → Turn
turn_by pending frames entered =
    if is_some pending then (if has_frame frames then Unwind else EndThread)
    else (if has_frame frames then (if is_before_class (first_frame frames).stage then Initialize else Instruction)
    else (if entered then EndThread else Entry))

not_entry : (b : Bool) → (if b then Initialize else Instruction) ≡ Entry → ⊥
not_entry true e = cc
not_entry false e = cc

no_frames : (pending : Option ℕ) (frames : List FrameState) (entered : Bool) → turn_by pending frames entered ≡ Entry → frames ≡ []
no_frames pending [] entered e = refl
no_frames (Some o) (f ∷ fs) entered e = cc
no_frames None (f ∷ fs) entered e = absurd (not_entry (is_before_class f.stage) e)

pub fresh_thread : (g : GuestState) (t : ℕ) → IsUnended g t → turn_of (thread_at g t) ≡ Entry → IsFresh g t
fresh_thread g t is e = record { unended = is; frames = no_frames (thread_at g t).pending (thread_at g t).frames (thread_at g t).entered e }

-- LATER IN AN EVENT that has changed no thread

pub fresh_on : (g g' : GuestState) (t : ℕ) → g'.threads ≡ g.threads → IsFresh g t → IsFresh g' t
fresh_on g g' t e is = record {
  unended = record {
    thread = subst (λ (ts : List ThreadState). t < length ts) (sym e) is.unended.thread;
    unended = ap (λ (ts : List ThreadState). (get_or ts t no_thread).ended) e ∙ is.unended.unended;
  };
  frames = ap (λ (ts : List ThreadState). (get_or ts t no_thread).frames) e ∙ is.frames;
}

pub fresh_later : (m n : MachineState) (t : ℕ) → n ≡ begun m → IsFresh m.guest t → IsFresh n.guest t
fresh_later m n t e is = fresh_on m.guest n.guest t (ap (λ (x : MachineState). x.guest.threads) e) is
