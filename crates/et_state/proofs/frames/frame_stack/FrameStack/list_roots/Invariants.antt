use Rattle.std.proofs.Common.{length, take}
use Rattle.et_state.proofs.Stacks.{IsListed}
use Rattle.et_state.proofs.frames.frame_stack.FrameStack.list_roots.Given as goal

abbrev pub invariant-loop-left : goal.invariant-loop-left
invariant-loop-left l = IsListed (length l.self-inside.values.items) l.self-inside.heads.items (take l.self-inside.top l.self-inside.values.items) l.fn.room l.room l.left l.values

abbrev pub decreases-loop-left : goal.decreases-loop-left
decreases-loop-left l = l.left
