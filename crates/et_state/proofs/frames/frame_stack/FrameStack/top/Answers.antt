use Rattle.std.proofs.Common.{◌≡◌, ◌-◌, length, take, drop, sym, subst, ap, ◌∙◌, arith}
use Rattle.et_state.specs.FrameInside.{frame_in, IsFrame}
use Rattle.et_state.proofs.Stacks.{IsTopHead, top_head, top_shown}
use Rattle.et_state.proofs.frames.frame_stack.FrameStack.top.Goals as goal

pub of-requires : goal.of-requires
of-requires c =
    let h = c.index-head.result.now in
    let n = c.self.inside.top in
    let vs = c.self.inside.values.items in
    let last : c.len.result - 1 ≡ length c.self.inside.heads.items - 1 = omega (arith, c.len.ensures) in
    let top : IsTopHead (length vs) c.self.inside.heads.items (take n vs) c.args.self.now h = top_head (length vs) c.self.inside.heads.items (take n vs) c.args.self.now h (c.len.result - 1) c.self.view_is c.self.invariant.frames c.requires last c.index-head.ensures in
    subst (λ ys. IsFrame h (take (n - h.base) (drop h.base ys))) (sym c.deref.ensures.value) (top_shown (length vs) c.self.inside.heads.items vs n c.args.self.now h c.self.invariant.within top).0

pub returns : goal.returns
returns c =
    let h = c.index-head.result.now in
    let n = c.self.inside.top in
    let vs = c.self.inside.values.items in
    let last : c.len.result - 1 ≡ length c.self.inside.heads.items - 1 = omega (arith, c.len.ensures) in
    let top : IsTopHead (length vs) c.self.inside.heads.items (take n vs) c.args.self.now h = top_head (length vs) c.self.inside.heads.items (take n vs) c.args.self.now h (c.len.result - 1) c.self.view_is c.self.invariant.frames c.requires last c.index-head.ensures in
    c.of.ensures ∙ (ap (λ ys. frame_in h (take (n - h.base) (drop h.base ys))) c.deref.ensures.value ∙ (top_shown (length vs) c.self.inside.heads.items vs n c.args.self.now h c.self.invariant.within top).1)
