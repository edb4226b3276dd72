use Rattle.std.proofs.Common.{◌≡◌, ℤ, true, rules, Option, [], ◌∷◌, drop, sym, subst, to_z, of_z}
use Rattle.std.specs.Int.{w32}
use Rattle.et_base.specs.declared.value.Value.TheVariants.{Int}
use Rattle.et_base.proofs.Lists.{Contains-none}
use Rattle.et_state.specs.Threads.{FrameState}
use Rattle.et_event.specs.FrameSteps.{StepsRunning}
use Rattle.et_event.specs.Plain.{put}
use Rattle.et_ops.proofs.InFrame.{fits_one, replaced_steps}
use Rattle.et_ops.proofs.operands.put_int.Goals as goal

pub returns : goal.returns
returns c =
    let b = c.args.running.now in
    let f = b.frame in
    let n = c.args.taken in
    let same : to_z w32 (of_z w32 c.args.n) ≡ c.args.n = search rules in
    subst (λ (z : ℤ). StepsRunning (put c.args.pc (Int z ∷ drop n f.operands) f) true b c.set_pc.new.self) same
    (subst (λ (o : Option FrameState). StepsRunning o true b c.set_pc.new.self) (sym (fits_one c.args.pc n (Int (to_z w32 (of_z w32 c.args.n))) f c.requires.some c.requires.operands c.requires.room))
    (replaced_steps b n c.args.pc (Int (to_z w32 (of_z w32 c.args.n)) ∷ []) _ _ _ _ (λ o d. absurd (Contains-none o d))
    c.begin_instruction.ensures.frame c.begin_instruction.ensures.below c.begin_instruction.ensures.lost c.take.ensures c.push.ensures c.set_pc.ensures))
