use Rattle.std.proofs.Common.{◌≡◌, ◌+◌, sym, ◌∙◌, ap, arith}
use Rattle.et_calls.specs.Sizes.{call_size}
use Rattle.et_calls.proofs.Behind.{behind_call}
use Rattle.et_calls.proofs.frames.behind_at.Goals as goal

pub returns-then-at-size : goal.returns-then-at-size
returns-then-at-size c =
    let size : c.call_size-size.result ≡ call_size c.in-Some.opcode = c.call_size-size.ensures in
    ap (λ n. c.args.pc + n) size
    ∙ sym (behind_call c.args.code.now c.args.pc (c.in-Some.opcode, c.in-Some._next) (sym c.in-Some.is ∙ c.u8_at.ensures) (omega (arith, c.if-size-gt0.true, size)) (omega (arith, c.if-at-size.true, size)))
