-- What is kept of the frames of a thread while the topmost one runs: as of a thread, but that what it changes stands apart.
use Rattle.std.specs.Prelude.{◌≡◌, ℕ, ◌+◌, ◌<◌, ◌^◌, List, ◌∷◌, take, reverse}
use Rattle.et_state.specs.Threads.{FrameState, first_frame, rest_of, at_pc}
use Rattle.et_state.specs.declared.frames.frame.FrameHead.{FrameHead}
use Rattle.et_state.specs.StackInside.{frames_in, IsStacked}
use Rattle.et_state.specs.Running.{RunningState}
use Rattle.et_state.specs.declared.frames.running.Running.TheInside.{Inside}

-- frames of which the topmost one runs
abbrev pub running_of : List FrameState → ℕ → List ℕ → RunningState
running_of frames pc lost = record { frame = at_pc pc (first_frame frames); below = rest_of frames; lost = lost }

abbrev pub running_in : Inside → RunningState
running_in r = running_of (frames_in (reverse r.heads.items) (take r.top r.values.items)) r.pc r.lost

-- there is a topmost frame, and its parts stand among the values where its head says
pub record IsRunning (r : Inside) : Type 0 where
  pub head : FrameHead
  pub below : List FrameHead
  pub heads : reverse r.heads.items ≡ head ∷ below
  pub stacked : IsStacked r.heads.items r.values.items r.top
  pub base : r.base ≡ head.base
  pub floor : r.floor ≡ head.base + head.locals
  pub limit : r.limit ≡ head.base + (head.locals + head.room)
  pub narrow : head.locals < 2 ^ 16
