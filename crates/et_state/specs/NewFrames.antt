-- The frame that begins as a NewFrame says, and the one that begins over the operands of another.
use Rattle.std.specs.Prelude.{ℕ, List, [], Some, take, reverse}
use Rattle.et_base.specs.declared.value.Value.{Value}
use Rattle.et_state.specs.declared.new_frame.NewFrame.{NewFrame}
use Rattle.et_state.specs.declared.new_frame.NewHead.{NewHead}
use Rattle.et_state.specs.declared.stage.Stage.TheVariants.{Plain}
use Rattle.et_state.specs.Threads.{FrameState, ThreadState, entered_by, locals_with, popped, top_of, with_top_of}

abbrev pub frame_of : NewFrame → FrameState
frame_of f = record {
  method = f.method;
  stage = f.stage;
  lock = f.lock;
  pc = 0;
  room = f.max_stack;
  locals = locals_with f.max_locals f.arguments.items;
  operands = [];
}

-- .. and as a NewHead says, with these arguments
abbrev pub frame_with : NewHead → List Value → FrameState
frame_with h arguments = record {
  method = Some h.method;
  stage = Plain;
  lock = h.lock;
  pc = 0;
  room = h.max_stack;
  locals = locals_with h.max_locals arguments;
  operands = [];
}

-- so many of the topmost operands of a frame, as arguments in their order
abbrev pub arguments_on : ℕ → FrameState → List Value
arguments_on count f = reverse (take count f.operands)

-- a frame more on top of a thread, which takes so many operands of the frame below it as its arguments
abbrev pub entered_over : NewHead → ℕ → ThreadState → ThreadState
entered_over h count x = entered_by (frame_with h (arguments_on count (top_of x))) (with_top_of x (popped count (top_of x)))
