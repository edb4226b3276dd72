use Rattle.std.proofs.Common.{◌≡◌, ◌++◌, ap, ◌∙◌, codes}
use Rattle.et_listing.specs.declared.entry.Entry.TheVariants.{Utf8}
use Rattle.et_asm.specs.Pool.{entry_index}
use Rattle.et_class.specs.Layout.{u4, u2}
use Rattle.et_asm.proofs.Loops.{chain, on_ok}
use Rattle.et_asm.proofs.class.put_value.Goals as goal

pub returns : goal.returns
returns c =
    let entries = c.args.symbols.now in
    let start = c.args.out.now.items in
    let o1 = c.put_u2.new.out.items in
    let o2 = c.put_index.new.out.items in
    let o3 = c.put_u4.new.out.items in
    let end = c.put_u2-2.new.out.items in
    let name = u2 (entry_index entries (Utf8 (codes "ConstantValue"))) in
    let value = u2 (entry_index entries c.args.value.now) in
    on_ok (λ last. chain start o1 end (u2 1) (name ++ (u4 2 ++ value)) c.in_ok-put_u2.ensures
    (chain o1 o2 end name (u4 2 ++ value) (c.in_ok-put_index.ensures ∙ ap (λ t. o1 ++ u2 (entry_index entries (Utf8 t))) c.new.ensures)
    (chain o2 o3 end (u4 2) value c.in_ok-put_u4.ensures (last ∙ ap (λ n. o3 ++ u2 n) c.index_of.ensures))))
    c.put_u2-2.result c.put_u2-2.ensures
