use Rattle.std.proofs.Common.{◌≤◌, List, length, ap, ◌∙◌, arith}
use Rattle.et_flow.specs.declared.locals.Held.{Held}
use Rattle.et_flow.specs.Locals.{spread}
use Rattle.et_flow.proofs.Held.{first_spread}
use Rattle.et_flow.proofs.locals.Locals.begin.Goals as goal

pub returns : goal.returns
returns c =
    let held : List Held = c.loop-i.self-inside.held.items in
    let all : length c.args.entries.now ≤ c.loop-i.i = omega (arith, c.loop-i-test.false) in
    let end : c.loop-i.i ≤ length c.args.entries.now = omega (arith, c.loop-i.auto.i-end) in
    ap (λ n. spread n held) c.loop-i.invariant.count
    ∙ first_spread c.args.count c.args.entries.now held (omega (arith, c.loop-i.invariant.long, all, end))
    (λ k lt. c.loop-i.invariant.locals k (omega (arith, lt, all))) (λ k lt. c.loop-i.invariant.entries k (omega (arith, lt, all))) c.requires.fits
