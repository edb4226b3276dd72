use Rattle.std.proofs.Common.{◌≡◌, ◌+◌, ◌-◌, ◌<◌, ◌++◌, length, drop, ◌∙◌, ap, arith}
use Rattle.std.proofs.lemmas.List.{length-append}
use Rattle.et_state.specs.Running.{RunningState}
use Rattle.et_event.proofs.Taking.{length_dropped}
use Rattle.et_ops.proofs.InFrame.{given_one}
use Rattle.et_ops.proofs.operands.give.Goals as goal

pub loop-k-preserved : goal.loop-k-preserved
loop-k-preserved c =
    let b = c.args.running.now in
    let f = b.frame in
    let vs = c.args.values.now in
    let k = c.loop-k.k in
    let few : k < length vs = omega (arith, c.loop-k-test.true) in
    let is = given_one b k f vs c.index-values-values.result _ _ few c.index-values-values.is c.loop-k.invariant.is c.push.ensures in
    let some : length (drop (length vs - (k + 1)) vs) + (length vs - (k + 1)) ≡ length vs = length_dropped vs (length vs - (k + 1)) (omega arith) in
    let sum : length (drop (length vs - (k + 1)) vs ++ f.operands) ≡ length (drop (length vs - (k + 1)) vs) + length f.operands = length-append _ _ in
    let put : length (drop (length vs - (k + 1)) vs ++ f.operands) ≡ length f.operands + (k + 1) = omega arith in
    record {
      is = is;
      put = ap (λ (r : RunningState). length r.frame.operands) is ∙ put;
      room = ap (λ (r : RunningState). r.frame.room) is;
    }
