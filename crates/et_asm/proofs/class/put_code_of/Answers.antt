use Rattle.std.proofs.Common.{◌≡◌, ◌++◌, ap, ◌∙◌, codes}
use Rattle.et_listing.specs.declared.entry.Entry.TheVariants.{Utf8}
use Rattle.et_asm.specs.Pool.{entry_index}
use Rattle.et_class.specs.Layout.{u2}
use Rattle.et_asm.specs.Code.{code_attribute, labels_of}
use Rattle.et_asm.proofs.Loops.{chain, on_ok}
use Rattle.et_asm.proofs.class.put_code_of.Goals as goal

pub returns : goal.returns
returns c =
    let entries = c.args.symbols.now in
    let body = c.args.body.now in
    let start = c.args.out.now.items in
    let o1 = c.put_u2.new.out.items in
    let o2 = c.put_index.new.out.items in
    let end = c.put_code_attribute.new.out.items in
    let name = u2 (entry_index entries (Utf8 (codes "Code"))) in
    let code = code_attribute entries (labels_of entries body) c.args.limits body in
    on_ok (λ last. chain start o1 end (u2 1) (name ++ code) c.in_ok-put_u2.ensures
    (chain o1 o2 end name code (c.in_ok-put_index.ensures ∙ ap (λ t. o1 ++ u2 (entry_index entries (Utf8 t))) c.new.ensures) last))
    c.put_code_attribute.result c.put_code_attribute.ensures
