use Rattle.std.proofs.Common.{◌≡◌, true, Option, sym, subst, ◌∙◌, rules}
use Rattle.et_state.specs.Threads.{FrameState}
use Rattle.et_event.specs.FrameSteps.{StepsRunning}
use Rattle.et_ops.proofs.Groups.{popped_value}
use Rattle.et_ops.proofs.stack.pop.Goals as goal

pub returns : goal.returns
returns c =
    let r = c.args.running.now in
    let one : c.is_one.result ≡ true = search rules in
    subst (λ (o : Option FrameState). StepsRunning o true r c.discard.new.running) (sym (popped_value c.args.next r.frame (sym c.is_one.ensures.is ∙ one) (c.is_one.ensures.deep one) c.is_one.ensures.few))
    c.discard.ensures
