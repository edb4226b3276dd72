use Rattle.std.proofs.Common.{◌≡◌, sym, ◌∙◌, rules, arith}
use Rattle.std.specs.Prelude.{Ok}
use Rattle.et_event.proofs.Constants.{index_small}
use Rattle.et_event.proofs.codes.instruction.Goals as goal

pub returns-clause-index : goal.returns-clause-index
returns-clause-index c =
    let found : c.decode.result ≡ Ok (c.in_ok-instr.instr, c.in_ok-instr.next) = search rules in
    index_small c.args.code.now c.args.pc (c.in_ok-instr.instr, c.in_ok-instr.next) (λ i. omega (arith, c.type_inv.code i)) (sym c.decode.ensures.decoded ∙ found)
