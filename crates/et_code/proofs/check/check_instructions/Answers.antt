use Rattle.std.proofs.Common.{sym, ap, ◌∙◌, arith}
use Rattle.et_base.specs.Marks.{first_from}
use Rattle.et_code.specs.Decoding.{instruction_at}
use Rattle.et_code.specs.Bodies.{body_of}
use Rattle.et_code.specs.Rules.{flag}
use Rattle.et_code.proofs.Checked.{left, left_next, left_last, left_end, left_all}
use Rattle.et_code.proofs.check.check_instructions.Goals as goal

pub loop-pc-init : goal.loop-pc-init
loop-pc-init c = left_all _ (body_of c.args.body.now) c.args.tags.now (flag c.args.flags.now)

pub loop-pc-preserved : goal.loop-pc-preserved
loop-pc-preserved c =
    let b = body_of c.args.body.now in
    let step = left_next c.loop-pc.first b c.args.tags.now (flag c.args.flags.now) c.loop-pc.pc c.in-Ok.instr c.in-Ok.next (omega arith) (ap (λ s. instruction_at s c.loop-pc.pc) (sym c.as_slice-code.ensures.value) ∙ sym c.in-Ok.ensures.decoded) in
    ap (λ x. first_from x (left b c.args.tags.now (flag c.args.flags.now) c.in-Ok.next)) c.check_instruction-first.ensures ∙ (sym step ∙ c.loop-pc.invariant)

pub returns-in-Err : goal.returns-in-Err
returns-in-Err c =
    let b = body_of c.args.body.now in
    let step = left_last c.loop-pc.first b c.args.tags.now (flag c.args.flags.now) c.loop-pc.pc c.in-Err.fault (omega arith) (ap (λ s. instruction_at s c.loop-pc.pc) (sym c.as_slice-code.ensures.value) ∙ sym c.in-Err.ensures.decoded) in
    c.check_no_instruction.ensures ∙ (sym step ∙ c.loop-pc.invariant)

pub returns : goal.returns
returns c =
    let b = body_of c.args.body.now in
    sym (left_end c.loop-pc.first b c.args.tags.now (flag c.args.flags.now) c.loop-pc.pc (omega arith)) ∙ c.loop-pc.invariant
