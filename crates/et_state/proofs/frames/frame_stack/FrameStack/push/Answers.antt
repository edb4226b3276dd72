use Rattle.std.proofs.Common.{◌<◌, ◌+◌, length, set, arith}
use Rattle.et_state.proofs.Stacks.{Keeps, room_to_push, keeps_pushed}
use Rattle.et_state.specs.Threads.{first_frame, rest_of, pushed}
use Rattle.std.specs.Prelude.{◌∷◌}
use Rattle.et_state.proofs.frames.frame_stack.FrameStack.push.Goals as goal

pub index_mut-requires : goal.index_mut-requires
index_mut-requires c =
    let fits : c.self.inside.top < length c.self.inside.values.items = room_to_push c.self.inside.heads.items c.self.inside.values.items c.self.inside.top c.args.self.now c.self.view_is c.self.invariant c.requires.frame c.requires.room in
    omega (arith, fits)

keeps : (c : goal.After-self-2-1) → Keeps c.self.inside.heads.items (set c.self.inside.values.items c.self.inside.top c.args.v) (c.self.inside.top + 1) (pushed c.args.v (first_frame c.args.self.now) ∷ rest_of c.args.self.now)
keeps c =
    keeps_pushed c.self.inside.heads.items c.self.inside.values.items c.self.inside.top c.args.self.now c.args.v c.self.view_is c.self.invariant c.requires.frame c.requires.room

pub invariant_of-self : goal.invariant_of-self
invariant_of-self c = (keeps c).stands

pub returns : goal.returns
returns c = (keeps c).view
