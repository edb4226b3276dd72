use Rattle.std.proofs.Common.{◌≡◌, ℤ, rules, true, Some, subst, drop, to_z, of_z}
use Rattle.std.specs.Int.{w64}
use Rattle.et_event.specs.FrameSteps.{StepsRunning}
use Rattle.et_event.specs.Plain.{long_stored}
use Rattle.et_ops.proofs.Storing.{long_steps}
use Rattle.et_ops.proofs.stores.move_long.Goals as goal

pub returns : goal.returns
returns c =
    let b = c.args.running.now in
    let f = b.frame in
    let same : to_z w64 (of_z w64 c.args.n) ≡ c.args.n = search rules in
    subst (λ (z : ℤ). StepsRunning (Some (record f { pc = c.args.next; locals = long_stored c.args.i z f.locals; operands = drop 2 f.operands })) true b c.set_pc.new.self) same
    (long_steps b c.args.i c.args.next _ _ _ _ _ _ _ _ c.requires.local c.begin_instruction.ensures.frame c.begin_instruction.ensures.below c.begin_instruction.ensures.lost c.take.ensures c.free.ensures.new c.free-2.ensures.new c.set_local.ensures.new c.set_local-2.ensures.new c.set_pc.ensures)
