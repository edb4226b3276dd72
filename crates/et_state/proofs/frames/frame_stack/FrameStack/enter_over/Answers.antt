use Rattle.std.proofs.Common.{◌≡◌, ℕ, ◌+◌, ◌-◌, ◌<◌, ◌^◌, Some, ◌∷◌, refl, arith, rules}
use Rattle.et_state.specs.declared.frames.frame.FrameHead.{FrameHead}
use Rattle.et_state.specs.declared.stage.Stage.TheVariants.{Plain}
use Rattle.et_state.specs.Threads.{first_frame, rest_of, popped}
use Rattle.et_state.specs.NewFrames.{arguments_on, frame_with}
use Rattle.et_state.proofs.Stacks.{Keeps, keeps_room, keeps_over, popped_values}
use Rattle.et_state.proofs.frames.frame_stack.FrameStack.enter_over.Goals as goal

pub invariant_of-self : goal.invariant_of-self
invariant_of-self c = keeps_room c.self.inside.heads.items c.self.inside.heads.items c.self.inside.values.items c.make_room.new.values.items c.self.inside.top c.self.invariant refl c.make_room.ensures.grows c.make_room.ensures.kept

pub invariant_of-self-in_err-push : goal.invariant_of-self-in_err-push
invariant_of-self-in_err-push c = keeps_room c.self.inside.heads.items c.push.new.self.items c.self.inside.values.items c.make_room.new.values.items c.self.inside.top c.self.invariant c.in_err-push.ensures.items c.make_room.ensures.grows c.make_room.ensures.kept

pub overflow_sub-base : goal.overflow_sub-base
overflow_sub-base c = (popped_values c.args.count c.self.inside.heads.items c.self.inside.values.items c.self.inside.top (c.self.inside.top - c.args.count) c.args.self.now c.self.view_is c.self.invariant c.requires.frame c.requires.operands refl).0

head : (c : goal.After-self-1) → FrameHead
head c = record { method = Some c.args.head.now.method; stage = Plain; lock = c.args.head.now.lock; pc = 0; room = c.args.head.now.max_stack; locals = c.args.head.now.max_locals; base = c.self.inside.top - c.args.count }

keeps : (c : goal.After-self-1) → Keeps c.push.new.self.items c.clear_values.new.values.items (c.self.inside.top - c.args.count + c.args.head.now.max_locals) (frame_with c.args.head.now (arguments_on c.args.count (first_frame c.args.self.now)) ∷ popped c.args.count (first_frame c.args.self.now) ∷ rest_of c.args.self.now)
unfolding head
keeps c =
    let base : ℕ = c.self.inside.top - c.args.count in
    let k : ℕ = base + c.args.head.now.max_locals in
    let narrow : c.args.head.now.max_stack < 2 ^ 16 = first_of (omega arith, search rules, grind arith) in
    keeps_over c.args.count c.self.inside.heads.items c.push.new.self.items c.self.inside.values.items c.make_room.new.values.items c.clear_values.new.values.items c.self.inside.top base k c.args.self.now (head c) c.self.view_is c.self.invariant c.requires.frame c.requires.operands refl c.in_ok-push.ensures.items c.requires.arguments refl narrow refl c.in_ok-make_room.ensures.ok c.make_room.ensures.grows c.make_room.ensures.kept c.clear_values.ensures.long c.clear_values.ensures.items

pub invariant_of-self-2 : goal.invariant_of-self-2
unfolding head
invariant_of-self-2 c = (keeps c).stands

pub returns-clause-ok : goal.returns-clause-ok
unfolding head
returns-clause-ok c = (keeps c).view
