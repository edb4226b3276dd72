use Rattle.std.proofs.Common.{◌≡◌, ◌+◌, ◌<◌, length, drop, ◌∙◌, ap, arith}
use Rattle.et_state.specs.Threads.{FrameState}
use Rattle.et_state.specs.Words.{top}
use Rattle.et_state.proofs.Steps.{top-steps_top}
use Rattle.et_event.proofs.Taking.{has_after, taken_one, length_dropped}
use Rattle.et_event.proofs.operands.take.Goals as goal

pub loop-preserved : goal.loop-preserved
loop-preserved c =
    let b = c.args.machine.now in
    let t = c.args.thread in
    let f = top b.guest t in
    let left : length (top c.loop.machine.guest t).operands + c.loop.counter ≡ length f.operands = c.loop.invariant.left in
    let here : 0 < length (top c.loop.machine.guest t).operands = omega (arith, c.requires.operands, c.loop-test.true) in
    let is = taken_one b t c.loop.counter f _ _ c.requires.frame.thread (omega arith) c.loop.invariant.is c.pop.ensures.new in
    let frame = top-steps_top b t _ _ _ c.requires.frame.thread is in
    let less : length (drop (c.loop.counter + 1) f.operands) + (c.loop.counter + 1) ≡ length f.operands = length_dropped f.operands (c.loop.counter + 1) (omega arith) in
    record {
      is = is;
      has = has_after b t _ _ _ c.requires.frame is;
      left = ap (λ (g : FrameState). length g.operands + (c.loop.counter + 1)) frame ∙ less;
      lost = omega (arith, c.pop.ensures.few, c.loop.invariant.lost);
    }
