-- The frames of a thread are lifted out of the machine, and put back.
use Rattle.std.proofs.Common.{◌≡◌, ℕ, ◌<◌, List, [], ◌∷◌, ◌++◌, length, true, Option, Some, None, get_or-set_same, set-set, sym, ap, subst, ◌∙◌, append-nil, arith}
use Rattle.et_state.specs.Running.{RunningState, MovesInFrame, passed, with_frames}
use Rattle.et_state.specs.Threads.{FrameState, ThreadState, no_thread, rest_of}
use Rattle.et_state.specs.State.{GuestState, Kept, MachineState, kept_of}
use Rattle.et_state.specs.Words.{thread_at, with_thread, top, with_top, HasFrame, ticked, begun, losing, steps_thread}
use Rattle.et_state.specs.Moves.{IsEventOf}
use Rattle.et_state.specs.Sound.{IsSound}
use Rattle.et_state.proofs.Steps.{with_top-itself}
use Rattle.et_event.specs.Answered.{StepsFrame}
use Rattle.et_event.specs.FrameSteps.{StepsRunning}
use Rattle.et_event.proofs.FrameEvents.{frame_led}
use Rattle.et_ops.proofs.Stepping.{done_step}

-- without the frames of the thread
abbrev pub lifted : MachineState → ℕ → MachineState
lifted m t = steps_thread m t (with_frames [] (thread_at m.guest t)) []

-- .. and with these
abbrev pub landed : MachineState → ℕ → RunningState → MachineState
landed m t r = steps_thread m t (with_frames (r.frame ∷ r.below) (thread_at m.guest t)) []

pub rest_short : (fs : List FrameState) → 0 < length fs → length (rest_of fs) < length fs
rest_short [] h = absurd (omega arith)
rest_short (f ∷ fs) h = omega arith

pub landed_guest : (g : GuestState) (t : ℕ) (f : FrameState) (below : List FrameState) → t < length g.threads → below ≡ rest_of (thread_at g t).frames
    → with_thread (with_thread g t (with_frames [] (thread_at g t))) t (with_frames (f ∷ below) (thread_at (with_thread g t (with_frames [] (thread_at g t))) t)) ≡ with_top g t f
landed_guest g t f below lt e =
    let y : ThreadState = with_frames [] (thread_at g t) in
    ap (λ (z : ThreadState). with_thread (with_thread g t y) t (with_frames (f ∷ below) z)) (get_or-set_same g.threads t y no_thread lt)
    ∙ (ap (λ (ts : List ThreadState). record g { threads = ts }) (set-set g.threads t y (with_frames (f ∷ below) y))
    ∙ ap (λ (fs : List FrameState). with_thread g t (with_frames (f ∷ fs) (thread_at g t))) e)

-- nothing was done
pub landed_same : (m : MachineState) (t : ℕ) (r : RunningState) → HasFrame m.guest t → r.frame ≡ top m.guest t → r.below ≡ rest_of (thread_at m.guest t).frames → landed (lifted m t) t r ≡ m
landed_same m t r has e b =
    ap (λ (g : GuestState). record m { guest = g; lost = m.lost ++ [] ++ [] }) (landed_guest m.guest t r.frame r.below has.thread b ∙ (ap (λ (f : FrameState). with_top m.guest t f) e ∙ with_top-itself m.guest t has))
    ∙ ap (λ (os : List ℕ). record m { lost = os }) (append-nil (m.lost ++ []) ∙ append-nil m.lost)

-- an event was done, which lost what the frames list
pub landed_led : (m : MachineState) (t : ℕ) (r r' : RunningState) (o : Option FrameState) → IsSound (kept_of m) → HasFrame m.guest t → r.frame ≡ top m.guest t → r.below ≡ rest_of (thread_at m.guest t).frames
    → StepsRunning o true r r' → StepsFrame o true t m (landed (losing (begun (lifted m t)) r'.lost) t r')
landed_led m t r r' None sound has e b h = absurd h
landed_led m t r r' (Some f) sound has e b h =
    let d = done_step (Some f) r r' h in
    let guest : (landed (losing (begun (lifted m t)) r'.lost) t r').guest ≡ with_top (ticked m.guest) t f =
    landed_guest (ticked m.guest) t r'.frame r'.below has.thread (d.1 ∙ b) ∙ ap (λ (g : FrameState). with_top (ticked m.guest) t g) h.0 in
    let lost : (landed (losing (begun (lifted m t)) r'.lost) t r').lost ≡ r'.lost = append-nil r'.lost in
    record {
      kept = ap (λ (g : GuestState). let k : Kept = record { heap = m.heap; guest = g } in k) guest;
      event = subst (λ (os : List ℕ). IsEventOf (kept_of m) (record { heap = m.heap; guest = with_top (ticked m.guest) t f }) os) (sym lost)
          (frame_led (kept_of m) t f r'.lost sound has (subst (λ (g : FrameState). MovesInFrame g f r'.lost) e h.2));
    }

-- so many events were done
pub passed_landed : (m : MachineState) (t : ℕ) (r : RunningState) (count : ℕ) (m₁ m₂ m₃ : MachineState) → HasFrame m.guest t → r.below ≡ rest_of (thread_at m.guest t).frames
    → m₁ ≡ lifted m t → m₂ ≡ landed m₁ t r → m₃ ≡ record m₂ { guest = passed count m₂.guest; lost = [] } → m₃ ≡ record { heap = m.heap; guest = with_top (passed count m.guest) t r.frame; lost = [] }
passed_landed m t r count m₁ m₂ m₃ has b e₁ e₂ e₃ =
    e₃ ∙ (ap (λ (n : MachineState). record n { guest = passed count n.guest; lost = [] }) (e₂ ∙ ap (λ (n : MachineState). landed n t r) e₁)
    ∙ ap (λ (g : GuestState). let n : MachineState = record { heap = m.heap; guest = passed count g; lost = [] } in n) (landed_guest m.guest t r.frame r.below has.thread b))
