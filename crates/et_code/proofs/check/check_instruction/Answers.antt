use Rattle.std.proofs.Common.{sym, ap, ◌∙◌, ◌+◌, ◌++◌}
use Rattle.et_base.specs.Marks.{first_from}
use Rattle.et_code.specs.Bodies.{body_of}
use Rattle.et_code.specs.Rules.{flag, operand_marks, array_marks, target_marks}
use Rattle.et_base.proofs.Firsts.{first_from-append}
use Rattle.et_code.proofs.check.check_instruction.Goals as goal

pub returns : goal.returns
returns c =
    let b = body_of c.args.body.now in
    let operands = operand_marks b c.args.tags.now (c.args.pc + 4) c.args.instr.now in
    let arrays = array_marks (c.args.pc + 4) c.args.instr.now in
    let targets = target_marks b (flag c.args.flags.now) (c.args.pc + 4) c.args.pc c.args.instr.now in
    c.check_targets.ensures
    ∙ (ap (λ x. first_from x targets) (c.check_array-first.ensures ∙ ap (λ x. first_from x arrays) c.check_operands-first.ensures)
    ∙ (sym (first_from-append (first_from c.args.first operands) arrays targets) ∙ sym (first_from-append c.args.first operands (arrays ++ targets))))
