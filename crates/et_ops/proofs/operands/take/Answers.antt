use Rattle.std.proofs.Common.{◌≡◌, ◌+◌, ◌<◌, length, drop, ◌∙◌, ap, arith}
use Rattle.et_state.specs.Running.{RunningState}
use Rattle.et_event.proofs.Taking.{length_dropped}
use Rattle.et_ops.proofs.InFrame.{taken_one}
use Rattle.et_ops.proofs.operands.take.Goals as goal

pub loop-preserved : goal.loop-preserved
loop-preserved c =
    let b = c.args.running.now in
    let f = b.frame in
    let left : length c.loop.running.frame.operands + c.loop.counter ≡ length f.operands = c.loop.invariant.left in
    let here : 0 < length c.loop.running.frame.operands = omega (arith, c.requires.operands, c.loop-test.true) in
    let is = taken_one b c.loop.counter f _ _ (omega arith) c.loop.invariant.is c.pop.ensures.new in
    let less : length (drop (c.loop.counter + 1) f.operands) + (c.loop.counter + 1) ≡ length f.operands = length_dropped f.operands (c.loop.counter + 1) (omega arith) in
    record {
      is = is;
      left = ap (λ (r : RunningState). length r.frame.operands + (c.loop.counter + 1)) is ∙ less;
      lost = omega (arith, c.pop.ensures.few, c.loop.invariant.lost);
    }
