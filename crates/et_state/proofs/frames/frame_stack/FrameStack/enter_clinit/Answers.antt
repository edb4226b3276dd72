use Rattle.std.proofs.Common.{◌≡◌, ℕ, ◌+◌, ◌-◌, ◌<◌, ◌^◌, Some, [], ◌∷◌, length, take, drop, set, ap, refl, arith, rules}
use Rattle.et_state.specs.declared.frames.frame.FrameHead.{FrameHead}
use Rattle.et_state.specs.FrameInside.{frame_in}
use Rattle.et_state.specs.Threads.{first_frame, rest_of, in_clinit, locals_with}
use Rattle.et_state.proofs.Stacks.{Keeps, frame_with, keeps_room, keeps_begun}
use Rattle.et_state.proofs.frames.frame_stack.FrameStack.enter_clinit.Goals as goal

pub invariant_of-self : goal.invariant_of-self
invariant_of-self c = keeps_room c.self.inside.heads.items c.self.inside.heads.items c.self.inside.values.items c.make_room.new.values.items c.self.inside.top c.self.invariant refl c.make_room.ensures.grows c.make_room.ensures.kept

head : (c : goal.After-self-2-1) → FrameHead
head c = record { method = Some c.args.method; stage = c.in_clinit_stage.result; lock = c.index-head.result.now.lock; pc = 0; room = c.args.max_stack; locals = c.args.max_locals; base = c.index-head.result.now.base }

keeps : (c : goal.After-self-2-1) → Keeps (set c.self.inside.heads.items (c.len-last.result - 1) (head c)) c.write_locals.new.values.items (c.index-head.result.now.base + c.args.max_locals) (in_clinit c.args.method c.args.max_stack c.args.max_locals (first_frame c.args.self.now) ∷ rest_of c.args.self.now)
unfolding head
keeps c =
    let h : FrameHead = c.index-head.result.now in
    let vs = c.self.inside.values.items in
    let k : ℕ = h.base + c.args.max_locals in
    let last : c.len-last.result - 1 ≡ length c.self.inside.heads.items - 1 = omega (arith, c.len-last.ensures) in
    let narrow : c.args.max_stack < 2 ^ 16 = first_of (omega (arith, c.ranges.max_stack.fits), search rules, grind arith) in
    let is : frame_with (head c) (locals_with c.args.max_locals []) [] ≡ in_clinit c.args.method c.args.max_stack c.args.max_locals (frame_in h (drop h.base (take c.self.inside.top vs))) = ap (λ s. frame_with (record (head c) { stage = s }) (locals_with c.args.max_locals []) []) c.in_clinit_stage.ensures in
    keeps_begun (in_clinit c.args.method c.args.max_stack c.args.max_locals) c.self.inside.heads.items vs c.make_room.new.values.items c.write_locals.new.values.items c.self.inside.top k c.args.self.now h (head c) (c.len-last.result - 1) c.self.view_is c.self.invariant c.requires last c.index-head.ensures refl narrow refl c.in_ok-make_room.ensures.ok c.make_room.ensures.grows c.make_room.ensures.kept c.write_locals.ensures.long c.write_locals.ensures.items is

pub invariant_of-self-2 : goal.invariant_of-self-2
unfolding head
invariant_of-self-2 c = (keeps c).stands

pub returns-clause-ok : goal.returns-clause-ok
unfolding head
returns-clause-ok c = (keeps c).view
