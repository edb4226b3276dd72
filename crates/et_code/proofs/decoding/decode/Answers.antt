use Rattle.std.proofs.Common.{rules, ◌≡◌, sym, subst}
use Rattle.std.specs.Prelude.{IfOk}
use Rattle.et_code.specs.Decoding.{Fits, instruction_at}
use Rattle.et_code.proofs.Decoded.{instruction_fits}
use Rattle.et_code.proofs.decoding.decode.Goals as goal

pub returns-clause-fits : goal.returns-clause-fits
unfolding instruction_at
returns-clause-fits c =
    let code = c.args.code.now in
    let decoded : c.operands.result ≡ instruction_at code c.args.pc = search rules in
    subst (λ r. IfOk r (λ x. Fits code c.args.pc x.0 x.1)) (sym decoded) (instruction_fits code c.args.pc)
