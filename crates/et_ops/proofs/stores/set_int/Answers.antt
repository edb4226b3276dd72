use Rattle.std.proofs.Common.{◌≡◌, ℤ, rules, true, Some, refl, subst, set, to_z, of_z}
use Rattle.std.specs.Int.{w32}
use Rattle.et_base.specs.declared.value.Value.TheVariants.{Int}
use Rattle.et_event.specs.FrameSteps.{StepsRunning}
use Rattle.et_ops.proofs.Storing.{set_steps}
use Rattle.et_ops.proofs.stores.set_int.Goals as goal

pub returns : goal.returns
returns c =
    let b = c.args.running.now in
    let f = b.frame in
    let same : to_z w32 (of_z w32 c.args.n) ≡ c.args.n = search rules in
    subst (λ (z : ℤ). StepsRunning (Some (record f { pc = c.args.next; locals = set f.locals c.args.i (Int z) })) true b c.set_pc.new.self) same
    (set_steps b c.args.i c.args.next _ _ _ _ refl c.requires.local c.begin_instruction.ensures.frame c.begin_instruction.ensures.below c.begin_instruction.ensures.lost c.set_local.ensures.new c.set_pc.ensures)
