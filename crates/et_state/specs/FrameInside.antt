-- What is kept of a frame: its head, and its values, which are its locals and then its operands with the topmost one last.
use Rattle.std.specs.Prelude.{◌+◌, ◌<◌, ◌≤◌, ◌^◌, List, length, take, drop, reverse}
use Rattle.et_base.specs.declared.value.Value.{Value}
use Rattle.et_state.specs.Threads.{FrameState}
use Rattle.et_state.specs.declared.frames.frame.FrameHead.{FrameHead}

abbrev pub frame_in : FrameHead → List Value → FrameState
frame_in h vs = record {
  method = h.method;
  stage = h.stage;
  lock = h.lock;
  pc = h.pc;
  room = h.room;
  locals = take h.locals vs;
  operands = reverse (drop h.locals vs);
}

-- all the locals are there, and at most as many operands as may be
pub record IsFrame (h : FrameHead) (vs : List Value) : Type 0 where
  pub locals : h.locals ≤ length vs
  pub few : length vs ≤ h.locals + h.room
  pub narrow : h.room < 2 ^ 16
