use Rattle.std.proofs.Common.{sym, ◌∙◌}
use Rattle.et_asm.proofs.Loops.{if_ok}
use Rattle.et_asm.proofs.Checked.{opening, not_opening}
use Rattle.et_asm.proofs.check.check_outside.Goals as goal

pub returns-then-opens : goal.returns-then-opens
returns-then-opens c =
    if_ok (λ found h. h ∙ opening c.args.symbols.now c.args.first c.mark-first.result c.args.number c.args.p.now c.args.more.now c.uses_none.result c.mark-first.ensures c.uses_none.ensures c.body_of.result.now (sym c.opens.ensures ∙ c.if-opens.true) c.body_of.ensures)
    c.check_body.result c.check_body.ensures

pub returns : goal.returns
returns c = not_opening c.args.symbols.now c.args.first c.mark-first.result c.args.number c.args.p.now c.args.more.now c.uses_none.result c.mark-first.ensures c.uses_none.ensures (sym c.opens.ensures ∙ c.if-opens.false)
