use Rattle.std.proofs.Common.{◌++◌, [], cond, sym, ap, ◌∙◌}
use Rattle.et_base.specs.Marks.{first_from}
use Rattle.et_asm.specs.Listings.{own_marks, outside_marks}
use Rattle.et_asm.proofs.Loops.{if_ok}
use Rattle.et_asm.proofs.Marked.{marks_more}
use Rattle.et_asm.proofs.check.check_line.Goals as goal

pub returns : goal.returns
returns c =
    let entries = c.args.symbols.now in
    let own = own_marks entries c.args.number c.args.before.stage c.args.before.few c.args.p.now in
    let outside = outside_marks entries c.args.number c.args.p.now c.args.more.now in
    if_ok (λ found h. h ∙ (ap (λ f. first_from f outside) c.check_own-first.ensures ∙ (marks_more c.args.first own outside
    ∙ ap (λ b. first_from c.args.first (own ++ cond b [] outside)) (sym (sym c.is_inside.ensures ∙ c.if-is_inside.false)))))
    c.check_outside.result c.check_outside.ensures
