use Rattle.std.proofs.Common.{◌≡◌, ◌+◌, ◌-◌, ◌<◌, ◌++◌, length, drop, ◌∙◌, ap, arith}
use Rattle.std.proofs.lemmas.List.{length-append}
use Rattle.et_state.specs.Threads.{FrameState}
use Rattle.et_state.specs.Words.{top}
use Rattle.et_state.proofs.Steps.{top-steps_top}
use Rattle.et_event.proofs.Taking.{has_after, given_one, length_dropped}
use Rattle.et_event.proofs.operands.give.Goals as goal

pub loop-k-preserved : goal.loop-k-preserved
loop-k-preserved c =
    let b = c.args.machine.now in
    let t = c.args.thread in
    let f = top b.guest t in
    let vs = c.args.values.now in
    let k = c.loop-k.k in
    let few : k < length vs = omega (arith, c.loop-k-test.true) in
    let is = given_one b t k f vs c.index-values-values.result _ _ c.requires.frame.thread few c.index-values-values.is c.loop-k.invariant.is c.push.ensures in
    let frame = top-steps_top b t _ _ _ c.requires.frame.thread is in
    let some : length (drop (length vs - (k + 1)) vs) + (length vs - (k + 1)) ≡ length vs = length_dropped vs (length vs - (k + 1)) (omega arith) in
    let sum : length (drop (length vs - (k + 1)) vs ++ f.operands) ≡ length (drop (length vs - (k + 1)) vs) + length f.operands = length-append _ _ in
    let put : length (drop (length vs - (k + 1)) vs ++ f.operands) ≡ length f.operands + (k + 1) = omega arith in
    record {
      is = is;
      has = has_after b t _ _ _ c.requires.frame is;
      put = ap (λ (g : FrameState). length g.operands) frame ∙ put;
      room = ap (λ (g : FrameState). g.room) frame;
    }
