use Rattle.std.proofs.Common.{length, take, reverse, ap, arith}
use Rattle.std.proofs.lemmas.List.{length-reverse}
use Rattle.et_state.proofs.Stacks.{length-frames_in}
use Rattle.et_state.proofs.frames.frame_stack.FrameStack.len.Goals as goal

pub returns : goal.returns
returns c =
    omega (arith, c.len.ensures, ap length c.self.view_is, length-frames_in (reverse c.self.inside.heads.items) (take c.self.inside.top c.self.inside.values.items), length-reverse c.self.inside.heads.items)
