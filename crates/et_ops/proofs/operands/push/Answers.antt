use Rattle.std.proofs.Common.{◌<◌, true, Option, ◌∷◌, length, sym, subst, rules}
use Rattle.et_state.specs.Threads.{FrameState}
use Rattle.et_event.specs.FrameSteps.{StepsRunning}
use Rattle.et_ops.proofs.InFrame.{fits, pushed_steps}
use Rattle.et_ops.proofs.operands.push.Goals as goal

pub returns : goal.returns
returns c =
    let b = c.args.running.now in
    let f = b.frame in
    let room : length f.operands < f.room = search rules in
    subst (λ (o : Option FrameState). StepsRunning o true b c.set_pc.new.self) (sym (fits c.args.pc (c.args.value ∷ f.operands) f room))
    (pushed_steps b c.args.value c.args.pc _ _ _ c.requires c.begin_instruction.ensures.frame c.begin_instruction.ensures.below c.begin_instruction.ensures.lost c.push.ensures c.set_pc.ensures)
