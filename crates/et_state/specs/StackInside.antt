-- What is kept of the frames of a thread: their heads with the topmost one last, and the values of all of them, with those
-- of the topmost one last.
use Rattle.std.specs.Prelude.{ℕ, ◌+◌, ◌≤◌, List, [], ◌∷◌, length, take, drop, reverse}
use Rattle.et_base.specs.declared.value.Value.{Value}
use Rattle.et_state.specs.Threads.{FrameState}
use Rattle.et_state.specs.declared.frames.frame.FrameHead.{FrameHead}
use Rattle.et_state.specs.declared.frames.frame_stack.FrameStack.TheInside.{Inside}
use Rattle.et_state.specs.FrameInside.{frame_in, IsFrame}

-- the frames with these heads, the topmost first
abbrev pub frames_in : List FrameHead → List Value → List FrameState
frames_in [] vs = []
frames_in (h ∷ below) vs = frame_in h (drop h.base vs) ∷ frames_in below (take h.base vs)

-- a frame stands on top of these values, and there is room for all that it may hold
pub record IsTopmost (capacity : ℕ) (h : FrameHead) (vs : List Value) : Type 0 where
  pub base : h.base ≤ length vs
  pub frame : IsFrame h (drop h.base vs)
  pub room : h.base + (h.locals + h.room) ≤ capacity

abbrev pub AreFrames : ℕ → List FrameHead → List Value → Type 0
AreFrames capacity [] vs = Unit {0}
AreFrames capacity (h ∷ below) vs = IsTopmost capacity h vs × AreFrames capacity below (take h.base vs)

-- so many of these values count, and they are those of the frames with these heads
pub record IsStacked (heads : List FrameHead) (values : List Value) (top : ℕ) : Type 0 where
  pub within : top ≤ length values
  pub frames : AreFrames (length values) (reverse heads) (take top values)

abbrev pub stack_in : Inside → List FrameState
stack_in s = frames_in (reverse s.heads.items) (take s.top s.values.items)

abbrev pub IsStack : Inside → Type 0
IsStack s = IsStacked s.heads.items s.values.items s.top
