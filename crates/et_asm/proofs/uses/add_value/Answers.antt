use Rattle.std.proofs.Common.{ap, ◌∙◌, [], ◌∷◌, codes}
use Rattle.et_listing.specs.declared.entry.Entry.TheVariants.{Utf8}
use Rattle.et_asm.specs.Symbols.{entry_added}
use Rattle.et_asm.proofs.Added.{added_two}
use Rattle.et_asm.proofs.uses.add_value.Goals as goal

pub returns : goal.returns
returns c =
    let old = c.args.pool.now.keys in
    c.in_ok-add.ensures ∙ (ap (λ k. entry_added k (c.args.e.now ∷ [])) (c.in_ok-add_text.ensures ∙ ap (λ t. entry_added old (Utf8 t ∷ [])) c.new.ensures) ∙ added_two old (Utf8 (codes "ConstantValue")) (c.args.e.now ∷ []))
