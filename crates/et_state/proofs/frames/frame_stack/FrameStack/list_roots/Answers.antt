use Rattle.std.proofs.Common.{◌≡◌, ◌++◌, length, take, ap, sym, subst, refl, ◌∙◌, arith}
use Rattle.et_state.specs.FrameInside.{frame_in, IsFrame}
use Rattle.et_state.specs.StackInside.{IsTopmost}
use Rattle.et_state.specs.ThreadRoots.{frame_roots}
use Rattle.et_state.proofs.Stacks.{listed_none, listed_top, listed_more, listed_all}
use Rattle.et_state.proofs.frames.frame_stack.FrameStack.list_roots.Goals as goal

pub loop-left-init : goal.loop-left-init
loop-left-init c = listed_none (length c.self.inside.values.items) c.self.inside.heads.items (take c.self.inside.top c.self.inside.values.items) c.args.room.now c.len-left.result _ (omega (arith, c.len-left.ensures)) (ap (λ ys. take c.self.inside.top ys) c.deref.ensures.value) c.self.invariant.frames

pub index-head-requires : goal.index-head-requires
index-head-requires c = omega (arith, c.loop-left.invariant.within, c.loop-left-test.true)

pub split_at-requires : goal.split_at-requires
split_at-requires c = (listed_top (length c.self.inside.values.items) c.self.inside.heads.items (take c.self.inside.top c.self.inside.values.items) c.args.room.now c.loop-left.room c.loop-left.left _ c.loop-left.values.now c.index-head.result.now c.loop-left.invariant c.loop-left-test.true refl c.index-head.ensures).base

pub of-requires : goal.of-requires
of-requires c =
    let top : IsTopmost (length c.self.inside.values.items) c.index-head.result.now c.loop-left.values.now = listed_top (length c.self.inside.values.items) c.self.inside.heads.items (take c.self.inside.top c.self.inside.values.items) c.args.room.now c.loop-left.room c.loop-left.left _ c.loop-left.values.now c.index-head.result.now c.loop-left.invariant c.loop-left-test.true refl c.index-head.ensures in
    subst (λ ys. IsFrame c.index-head.result.now ys) (sym c.split_at.ensures.back) top.frame

pub loop-left-preserved : goal.loop-left-preserved
loop-left-preserved c =
    let more : c.list_roots.new.room ≡ c.loop-left.room ++ frame_roots (frame_in c.index-head.result.now c.split_at.result.1.now) = c.in_ok-list_roots.ensures ∙ ap (λ f. c.loop-left.room ++ frame_roots f) c.of.ensures in
    listed_more (length c.self.inside.values.items) c.self.inside.heads.items (take c.self.inside.top c.self.inside.values.items) c.args.room.now c.loop-left.room c.list_roots.new.room c.loop-left.left _ c.loop-left.values.now c.split_at.result.1.now c.split_at.result.0.now c.index-head.result.now c.loop-left.invariant c.loop-left-test.true refl c.index-head.ensures c.split_at.ensures.back c.split_at.ensures.front more

pub returns : goal.returns
returns c = listed_all (length c.self.inside.values.items) c.self.inside.heads.items (take c.self.inside.top c.self.inside.values.items) c.args.room.now c.loop-left.room c.loop-left.left _ c.args.self.now c.loop-left.invariant (omega (arith, c.loop-left-test.false)) c.self.view_is
