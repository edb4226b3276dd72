use Rattle.std.proofs.Common.{rules, ◌≡◌, Some, sym, ◌∙◌}
use Rattle.std.specs.Int.{w8, w16}
use Rattle.et_base.specs.Numbers.{number_at}
use Rattle.et_verify.proofs.Entries.{plain_here, byte_here, short_here, with_next}
use Rattle.et_verify.proofs.simple.simple_at.Goals as goal

pub returns-in-1-clause-found : goal.returns-in-1-clause-found
returns-in-1-clause-found c =
    let here : number_at w8 c.args.code.now c.args.pc ≡ Some (c.in_ok-opcode.opcode, c.in_ok-opcode.at) = search rules in
    plain_here c.args.code.now c.args.pc c.in_ok-opcode.opcode c.in_ok-opcode.at here (c.length_of.ensures.one c.in-1.is) ∙ with_next c.in_ok-opcode.at _ _ (sym c.with_operand.ensures)

pub returns-in_ok-first-in-2-clause-found : goal.returns-in_ok-first-in-2-clause-found
returns-in_ok-first-in-2-clause-found c =
    let here : number_at w8 c.args.code.now c.args.pc ≡ Some (c.in_ok-opcode.opcode, c.in_ok-opcode.at) = search rules in
    let there : number_at w8 c.args.code.now c.in_ok-opcode.at ≡ Some (c.in_ok-first-in-2.first, c.in_ok-first-in-2.at) = search rules in
    byte_here c.args.code.now c.args.pc c.in_ok-opcode.opcode c.in_ok-opcode.at here c.in_ok-first-in-2.first c.in_ok-first-in-2.at (c.length_of.ensures.two c.in-2.is) there ∙ with_next c.in_ok-first-in-2.at _ _ (sym c.with_operand-in-2.ensures)

pub returns-in_ok-first-in-3-clause-found : goal.returns-in_ok-first-in-3-clause-found
returns-in_ok-first-in-3-clause-found c =
    let here : number_at w8 c.args.code.now c.args.pc ≡ Some (c.in_ok-opcode.opcode, c.in_ok-opcode.at) = search rules in
    let there : number_at w16 c.args.code.now c.in_ok-opcode.at ≡ Some (c.in_ok-first-in-3.first, c.in_ok-first-in-3.at) = search rules in
    short_here c.args.code.now c.args.pc c.in_ok-opcode.opcode c.in_ok-opcode.at here c.in_ok-first-in-3.first c.in_ok-first-in-3.at (c.length_of.ensures.three c.in-3.is) there ∙ with_next c.in_ok-first-in-3.at _ _ (sym c.with_operand-in-3.ensures)
