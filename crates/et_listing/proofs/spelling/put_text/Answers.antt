use Rattle.std.proofs.Common.{sym, ap, ◌∙◌, ◌++◌, append-nil}
use Rattle.et_listing.proofs.Unescaped.{unescaped_end}
use Rattle.et_listing.proofs.spelling.put_text.Goals as goal

pub returns : goal.returns
returns c = sym (append-nil c.loop-i.out.items) ∙ (ap (λ xs. c.loop-i.out.items ++ xs) (sym (unescaped_end c.args.word.now c.loop-i.i c.loop-i-test.false)) ∙ c.loop-i.invariant.put)
