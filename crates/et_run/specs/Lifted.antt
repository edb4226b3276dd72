-- EVENTS OVER LIFTED FRAMES, one after the other.
use Rattle.std.specs.Prelude.{◌≡◌, ℕ, zero, suc, ◌+◌, List, [], Contains, length, slice_index}
use Rattle.et_heap.specs.Objects.{Objects}
use Rattle.et_program.specs.Entries.{Linked}
use Rattle.et_refs.specs.Steps.{IsStepOver}
use Rattle.et_state.specs.Running.{passed}
use Rattle.et_state.specs.State.{MachineState}
use Rattle.et_state.specs.Threads.{FrameState}
use Rattle.et_state.specs.Words.{top, with_top}

-- The event after event e is an instruction of frame f over this heap. What it loses has the stamp e then, and all else its own.
pub record IsStampedStep (p : Linked) (heap heap' : Objects) (e : ℕ) (f f' : FrameState) (old new : List ℕ) : Type 0 where
  pub lost : List ℕ
  pub step : IsStepOver p heap heap' f f' lost
  pub stamped : (o : ℕ) → Contains lost o → slice_index new o ≡ e
  pub kept : (o : ℕ) → ¬ Contains lost o → slice_index new o ≡ slice_index old o
  pub long : length new ≡ length old

-- so many of them, of which the first is the event after event e
unfoldable pub AreStampedSteps : Linked → ℕ → ℕ → Objects → Objects → FrameState → FrameState → List ℕ → List ℕ → Type 0
AreStampedSteps p zero e heap heap' f f' old new = (heap' ≡ heap) × (f' ≡ f) × (new ≡ old)
AreStampedSteps p (suc k) e heap heap' f f' old new =
    (between_heap : Objects) × (mid : FrameState) × (between : List ℕ) × AreStampedSteps p k e heap between_heap f mid old between × IsStampedStep p between_heap heap' (e + k) mid f' between new

-- So many events of thread t were such instructions of its topmost frame, and nothing else changed.
pub record RunsOver (p : Linked) (t count : ℕ) (m m' : MachineState) (old new : List ℕ) : Type 0 where
  pub heap : Objects
  pub frame : FrameState
  pub steps : AreStampedSteps p count m.guest.clock m.heap heap (top m.guest t) frame old new
  pub now : m' ≡ record { heap = heap; guest = with_top (passed count m.guest) t frame; lost = [] }
