-- The frames of a thread while the topmost one runs.
use Rattle.std.specs.Prelude.{ℕ, ◌+◌, List, ◌++◌, Contains}
use Rattle.et_state.specs.Threads.{FrameState, ThreadState}
use Rattle.et_state.specs.ThreadRoots.{frame_roots}
use Rattle.et_state.specs.State.{GuestState}
use Rattle.et_state.specs.Moves.{Moves}

-- the frame that runs, those below it, and the objects that its newest instruction lost
pub record RunningState : Type 0 where
  pub frame : FrameState
  pub below : List FrameState
  pub lost : List ℕ

-- the frame became f, with these objects lost
abbrev pub steps_running : RunningState → FrameState → List ℕ → RunningState
steps_running r f l = record { frame = f; below = r.below; lost = r.lost ++ l }

-- a thread with these frames
abbrev pub with_frames : List FrameState → ThreadState → ThreadState
with_frames fs x = record x { frames = fs }

-- so many events later
abbrev pub passed : ℕ → GuestState → GuestState
passed events g = record g { clock = g.clock + events }

-- A frame became another one, in which nothing stands that did not stand in it before; what stands in it no more is lost.
abbrev pub MovesInFrame : FrameState → FrameState → List ℕ → Type 0
MovesInFrame f f' lost = Moves (λ o. ⊥) (Contains (frame_roots f)) (frame_roots f) (frame_roots f') lost

-- so many objects may be lost by one instruction that changes nothing but its frame
abbrev pub most_lost : ℕ
most_lost = 8
