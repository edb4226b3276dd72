-- INSTRUCTIONS OVER LIFTED FRAMES: what one does while the frames of its thread are out of the machine, whatever else is in the state.
use Rattle.std.specs.Prelude.{◌≡◌, ℕ, Bool, true, false, List, [], Contains, None, length}
use Rattle.et_heap.specs.Objects.{Objects, IsHeld}
use Rattle.et_program.specs.Entries.{Linked}
use Rattle.et_state.specs.declared.stage.Turn.TheVariants.{Instruction}
use Rattle.et_state.specs.Moves.{IsEventOf, Moves}
use Rattle.et_state.specs.Outcome.{Goes}
use Rattle.et_state.specs.Running.{RunningState}
use Rattle.et_state.specs.Sound.{IsSound}
use Rattle.et_state.specs.State.{GuestState, Kept}
use Rattle.et_state.specs.ThreadRoots.{frame_roots}
use Rattle.et_state.specs.Threads.{FrameState, turn_of}
use Rattle.et_state.specs.Words.{thread_at, ticked, top, with_top}
use Rattle.et_event.specs.Event.{event}
use Rattle.et_event.specs.Out.{out_turn}
use Rattle.et_event.specs.Selected.{text_call}

-- a state with this heap
abbrev pub over : Objects → GuestState → Kept
over heap g = record { heap = heap; guest = g }

-- the thread does an instruction next, and this is its topmost frame
pub record Instructs (g : GuestState) (t : ℕ) (f : FrameState) : Type 0 where
  pub turn : turn_of (thread_at g t) ≡ Instruction
  pub frame : top g t ≡ f

-- A frame became another one, in which nothing new stands but what is held; what stands in it no more is lost.
abbrev pub MovesOver : Objects → FrameState → FrameState → List ℕ → Type 0
MovesOver heap f f' lost = Moves (IsHeld heap) (Contains (frame_roots f)) (frame_roots f) (frame_roots f') lost

-- The event of a thread that does the instruction of frame f, in each state with this heap: it is done and tells nothing, no method
-- of texts is called and System.out isn't read, and after it the heap and the frame are these. That is a legal step, which loses
-- these objects.
pub record IsStepOver (p : Linked) (heap heap' : Objects) (f f' : FrameState) (lost : List ℕ) : Type 0 where
  pub leads : (g : GuestState) (t : ℕ) → Instructs g t f → event p (over heap g) t ≡ Goes (over heap' (with_top (ticked g) t f')) []
  pub silent : (g : GuestState) (t : ℕ) → Instructs g t f → (text_call p (over heap g) t ≡ None) × (out_turn p (over heap g) t ≡ None)
  pub legal : (g : GuestState) (t : ℕ) → Instructs g t f → IsSound (over heap g) → IsEventOf (over heap g) (over heap' (with_top (ticked g) t f')) lost
  pub moves : MovesOver heap' f f' lost
  pub made : length heap' ≡ length heap
  -- it stays in its method
  pub stays : f' ≡ record f { pc = f'.pc; locals = f'.locals; operands = f'.operands }

-- What is answered by a call that does such an instruction where it can. Else all is as before.
abbrev pub StepsOver : Linked → Objects → Objects → Bool → RunningState → RunningState → Type 0
StepsOver p heap heap' true r r' = (r'.below ≡ r.below) × IsStepOver p heap heap' r.frame r'.frame r'.lost
StepsOver p heap heap' false r r' = (r' ≡ r) × (heap' ≡ heap)
