use Rattle.std.proofs.Common.{◌≡◌, ℤ, rules, List, Option, Some, drop, subst, sym, ◌∙◌, true, to_z, of_z}
use Rattle.std.specs.Int.{w32}
use Rattle.et_base.specs.declared.value.Value.{Value}
use Rattle.et_code.specs.Switches.{target_of}
use Rattle.et_state.specs.Threads.{FrameState}
use Rattle.et_event.specs.FrameSteps.{StepsRunning}
use Rattle.et_event.specs.Sites.{target}
use Rattle.et_ops.specs.Tops.{jumped}
use Rattle.et_ops.proofs.Switching.{int_on_top}
use Rattle.et_ops.proofs.switches.go_by_table.Goals as goal

pub returns : goal.returns
returns c =
    let r = c.args.running.now in
    let f = r.frame in
    let code = c.args.code.now in
    let instr = c.args.instr in
    let key = c.in-Some.key in
    let go : ℤ → List Value → Option FrameState = λ k below. Some (record f { pc = target f.pc (target_of code instr k); operands = below }) in
    let place : to_z w32 (of_z w32 c.switch_target-offset.result) ≡ target_of code instr key = search rules in
    let steps : StepsRunning (Some (jumped (target_of code instr key) 0 f (true, drop 1 f.operands))) true r c.jump.new.running =
    subst (λ (z : ℤ). StepsRunning (Some (jumped z 0 f (true, drop 1 f.operands))) true r c.jump.new.running) place c.jump.ensures in
    subst (λ (o : Option FrameState). StepsRunning o true r c.jump.new.running) (sym (int_on_top f.operands key go (sym c.int_at.ensures ∙ c.in-Some.is))) steps
