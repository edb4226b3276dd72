use Rattle.std.proofs.Common.{◌≡◌, ◌-◌, length, set, arith}
use Rattle.std.specs.Prelude.{◌∷◌}
use Rattle.et_state.proofs.Stacks.{Keeps, keeps_pc}
use Rattle.et_state.specs.Threads.{first_frame, rest_of, at_pc}
use Rattle.et_state.proofs.frames.frame_stack.FrameStack.set_pc.Goals as goal

keeps : (c : goal.After-self-1) → Keeps (set c.self.inside.heads.items (c.len-last.result - 1) (record c.index-head.result.now { pc = c.args.pc })) c.self.inside.values.items c.self.inside.top (at_pc c.args.pc (first_frame c.args.self.now) ∷ rest_of c.args.self.now)
keeps c =
    let last : c.len-last.result - 1 ≡ length c.self.inside.heads.items - 1 = omega (arith, c.len-last.ensures) in
    keeps_pc c.self.inside.heads.items c.self.inside.values.items c.self.inside.top c.args.self.now c.index-head.result.now (c.len-last.result - 1) c.args.pc c.self.view_is c.self.invariant c.requires last c.index-head.ensures

pub invariant_of-self : goal.invariant_of-self
invariant_of-self c = (keeps c).stands

pub returns : goal.returns
returns c = (keeps c).view
