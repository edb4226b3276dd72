use Rattle.std.proofs.Common.{◌<◌, ◌-◌, refl, arith}
use Rattle.std.specs.Prelude.{◌∷◌}
use Rattle.et_state.proofs.Stacks.{Keeps, some_values, keeps_popped}
use Rattle.et_state.specs.Threads.{first_frame, rest_of, popped}
use Rattle.et_state.proofs.frames.frame_stack.FrameStack.pop.Goals as goal

pub overflow_sub-self : goal.overflow_sub-self
overflow_sub-self c =
    let some : 0 < c.self.inside.top = some_values c.self.inside.heads.items c.self.inside.values.items c.self.inside.top c.args.self.now c.self.view_is c.self.invariant c.requires.frame c.requires.operand in
    omega (arith, some)

keeps : (c : goal.After-self-1) → Keeps c.self.inside.heads.items c.self.inside.values.items (c.self.inside.top - 1) (popped 1 (first_frame c.args.self.now) ∷ rest_of c.args.self.now)
keeps c =
    keeps_popped c.self.inside.heads.items c.self.inside.values.items c.self.inside.top (c.self.inside.top - 1) c.args.self.now c.self.view_is c.self.invariant c.requires.frame c.requires.operand refl

pub invariant_of-self : goal.invariant_of-self
invariant_of-self c = (keeps c).stands

pub returns : goal.returns
returns c = (keeps c).view
