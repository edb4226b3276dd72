use Rattle.std.proofs.Common.{◌≡◌, ◌-◌, length, arith}
use Rattle.et_state.specs.Threads.{rest_of}
use Rattle.et_state.proofs.Stacks.{Keeps, keeps_dropped}
use Rattle.et_state.proofs.frames.frame_stack.FrameStack.drop_top.Goals as goal

keeps : (c : goal.After-self-1) → Keeps c.truncate.new.self.items c.self.inside.values.items c.index-head.result.now.base (rest_of c.args.self.now)
keeps c =
    let last : c.len-last.result - 1 ≡ length c.self.inside.heads.items - 1 = omega (arith, c.len-last.ensures) in
    keeps_dropped c.self.inside.heads.items c.truncate.new.self.items c.self.inside.values.items c.self.inside.top c.args.self.now c.index-head.result.now (c.len-last.result - 1) c.self.view_is c.self.invariant c.requires last c.index-head.ensures c.truncate.ensures.items

pub invariant_of-self : goal.invariant_of-self
invariant_of-self c = (keeps c).stands

pub returns : goal.returns
returns c = (keeps c).view
