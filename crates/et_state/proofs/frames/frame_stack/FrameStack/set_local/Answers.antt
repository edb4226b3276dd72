use Rattle.std.proofs.Common.{◌≡◌, ◌+◌, ◌-◌, length, set, arith}
use Rattle.std.specs.Prelude.{◌∷◌}
use Rattle.et_state.proofs.Stacks.{Keeps, keeps_local}
use Rattle.et_state.specs.Threads.{first_frame, rest_of, with_local}
use Rattle.et_state.proofs.frames.frame_stack.FrameStack.set_local.Goals as goal

keeps : (c : goal.After-self-1) → Keeps c.self.inside.heads.items (set c.self.inside.values.items (c.index-head.result.now.base + c.args.i) c.args.v) c.self.inside.top (with_local c.args.i c.args.v (first_frame c.args.self.now) ∷ rest_of c.args.self.now)
keeps c =
    let last : c.len.result - 1 ≡ length c.self.inside.heads.items - 1 = omega (arith, c.len.ensures) in
    keeps_local c.self.inside.heads.items c.self.inside.values.items c.self.inside.top c.args.self.now c.index-head.result.now (c.len.result - 1) c.args.i c.args.v c.self.view_is c.self.invariant c.requires.frame last c.index-head.ensures c.requires.local

pub invariant_of-self : goal.invariant_of-self
invariant_of-self c = (keeps c).stands

pub returns : goal.returns
returns c = (keeps c).view
