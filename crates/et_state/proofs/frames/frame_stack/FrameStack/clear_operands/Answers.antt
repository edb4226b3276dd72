use Rattle.std.proofs.Common.{◌≡◌, ◌+◌, ◌-◌, length, arith}
use Rattle.std.specs.Prelude.{◌∷◌}
use Rattle.et_state.proofs.Stacks.{Keeps, keeps_cleared}
use Rattle.et_state.specs.Threads.{first_frame, rest_of, without_operands}
use Rattle.et_state.proofs.frames.frame_stack.FrameStack.clear_operands.Goals as goal

keeps : (c : goal.After-self-1) → Keeps c.self.inside.heads.items c.self.inside.values.items (c.index-head.result.now.base + c.index-head.result.now.locals) (without_operands (first_frame c.args.self.now) ∷ rest_of c.args.self.now)
keeps c =
    let last : c.len.result - 1 ≡ length c.self.inside.heads.items - 1 = omega (arith, c.len.ensures) in
    keeps_cleared c.self.inside.heads.items c.self.inside.values.items c.self.inside.top c.args.self.now c.index-head.result.now (c.len.result - 1) c.self.view_is c.self.invariant c.requires last c.index-head.ensures

pub invariant_of-self : goal.invariant_of-self
invariant_of-self c = (keeps c).stands

pub returns : goal.returns
returns c = (keeps c).view
