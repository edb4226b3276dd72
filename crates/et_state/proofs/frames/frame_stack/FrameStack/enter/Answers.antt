use Rattle.std.proofs.Common.{◌≡◌, ℕ, ◌+◌, ◌<◌, ◌^◌, [], ◌∷◌, ◌++◌, take, ap, refl, ◌∙◌, arith, rules}
use Rattle.et_state.specs.declared.frames.frame.FrameHead.{FrameHead}
use Rattle.et_state.specs.Threads.{locals_with}
use Rattle.et_state.proofs.Stacks.{Keeps, frame_with, keeps_room, keeps_entered}
use Rattle.et_state.proofs.frames.frame_stack.FrameStack.enter.Goals as goal

pub invariant_of-self : goal.invariant_of-self
invariant_of-self c = keeps_room c.self.inside.heads.items c.self.inside.heads.items c.self.inside.values.items c.make_room.new.values.items c.self.inside.top c.self.invariant refl c.make_room.ensures.grows c.make_room.ensures.kept

pub invariant_of-self-in_err-push : goal.invariant_of-self-in_err-push
invariant_of-self-in_err-push c = keeps_room c.self.inside.heads.items c.push.new.self.items c.self.inside.values.items c.make_room.new.values.items c.self.inside.top c.self.invariant c.in_err-push.ensures.items c.make_room.ensures.grows c.make_room.ensures.kept

pub invariant_of-self-2 : goal.invariant_of-self-2
invariant_of-self-2 c =
    let h : FrameHead = record { method = c.args.frame.now.method; stage = c.args.frame.now.stage; lock = c.args.frame.now.lock; pc = 0; room = c.args.frame.now.max_stack; locals = c.args.frame.now.max_locals; base = c.self.inside.top } in
    let args = c.args.frame.now.arguments.items in
    let k : ℕ = c.self.inside.top + c.args.frame.now.max_locals in
    let grown = c.make_room.new.values.items in
    let put : take k c.write_locals.new.values.items ≡ take c.self.inside.top grown ++ locals_with c.args.frame.now.max_locals args = c.write_locals.ensures.items ∙ ap (λ ys. take c.self.inside.top grown ++ locals_with c.args.frame.now.max_locals ys) c.as_slice.ensures in
    let narrow : c.args.frame.now.max_stack < 2 ^ 16 = first_of (omega arith, search rules, grind arith) in
    let keeps : Keeps c.push.new.self.items c.write_locals.new.values.items k (frame_with h (locals_with c.args.frame.now.max_locals args) [] ∷ c.args.self.now) = keeps_entered c.self.inside.heads.items c.push.new.self.items c.self.inside.values.items grown c.write_locals.new.values.items args c.self.inside.top k c.args.self.now h c.self.view_is c.self.invariant c.in_ok-push.ensures.items c.requires refl narrow refl c.in_ok-make_room.ensures.ok c.make_room.ensures.grows c.make_room.ensures.kept c.write_locals.ensures.long put in
    keeps.stands
