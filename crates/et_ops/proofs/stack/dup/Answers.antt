use Rattle.std.proofs.Common.{◌≡◌, true, Option, sym, subst, ◌∙◌, rules}
use Rattle.et_state.specs.Threads.{FrameState}
use Rattle.et_event.specs.FrameSteps.{StepsRunning}
use Rattle.et_ops.proofs.Groups.{value_again}
use Rattle.et_ops.proofs.stack.dup.Goals as goal

pub returns : goal.returns
returns c =
    let r = c.args.running.now in
    let one : c.is_one.result ≡ true = search rules in
    subst (λ (o : Option FrameState). StepsRunning o c.push.result r c.push.new.running) (value_again c.args.next r.frame c.operand_at-first.result (sym c.is_one.ensures.is ∙ one) (c.is_one.ensures.deep one) c.operand_at-first.ensures.value)
    c.push.ensures
