use Rattle.std.proofs.Common.{◌≡◌, ◌++◌, ap, ◌∙◌}
use Rattle.std.specs.List.{flat_map}
use Rattle.et_class.specs.Layout.{u2}
use Rattle.et_asm.specs.Code.{row_bytes, catch_count}
use Rattle.et_asm.specs.Symbols.{places}
use Rattle.et_asm.proofs.Loops.{chain, on_ok}
use Rattle.et_asm.proofs.code.put_code_tail.Goals as goal

pub returns : goal.returns
returns c =
    let start = c.args.out.now.items in
    let o1 = c.put_u2.new.out.items in
    let o2 = c.put_rows.new.out.items in
    let end = c.put_u2-2.new.out.items in
    let count = u2 (catch_count c.args.body.now) in
    let rows = flat_map (λ p. row_bytes c.args.symbols.now (places c.args.labels.now.entries) p.line) c.args.body.now in
    on_ok (λ last. chain start o1 end count (rows ++ u2 0) (c.in_ok-put_u2.ensures ∙ ap (λ n. start ++ u2 n) c.catch_count.ensures.count)
    (chain o1 o2 end rows (u2 0) c.in_ok-put_rows.ensures last))
    c.put_u2-2.result c.put_u2-2.ensures
