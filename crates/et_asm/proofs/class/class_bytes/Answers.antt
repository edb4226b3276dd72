use Rattle.std.proofs.Common.{◌≡◌, ◌++◌, ap, ◌∙◌}
use Rattle.std.specs.List.{flat_map}
use Rattle.et_asm.specs.Pool.{entry_pool_bytes}
use Rattle.et_class.specs.Layout.{u4, u2}
use Rattle.et_asm.specs.Listings.{count, is_interface_line, is_field_line, is_method_line, header_bytes, interface_bytes, field_bytes, methods_bytes, listed_class_bytes}
use Rattle.et_asm.proofs.Loops.{chain}
use Rattle.et_asm.proofs.class.class_bytes.Goals as goal

pub returns : goal.returns
unfolding listed_class_bytes
returns c =
    let entries = c.args.symbols.now in
    let ps = c.args.lines.now in
    let start = c.new-out.result.items in
    let o1 = c.put_u4.new.out.items in
    let o2 = c.put_u2.new.out.items in
    let o3 = c.put_u2-2.new.out.items in
    let o4 = c.put_pool.new.out.items in
    let o5 = c.put_section.new.out.items in
    let o6 = c.put_u2-3.new.out.items in
    let o7 = c.put_section-2.new.out.items in
    let o8 = c.put_u2-4.new.out.items in
    let o9 = c.put_section-3.new.out.items in
    let o10 = c.put_u2-5.new.out.items in
    let o11 = c.put_methods.new.out.items in
    let o12 = c.put_u2-6.new.out.items in
    let b1 = u4 0xCAFEBABE in
    let b2 = u2 0 in
    let b3 = u2 52 in
    let b4 = entry_pool_bytes entries in
    let b5 = flat_map (λ p. header_bytes entries p.line) ps in
    let b6 = u2 (count is_interface_line ps) in
    let b7 = flat_map (λ p. interface_bytes entries p.line) ps in
    let b8 = u2 (count is_field_line ps) in
    let b9 = flat_map (λ p. field_bytes entries p.line) ps in
    let b10 = u2 (count is_method_line ps) in
    let b11 = methods_bytes entries ps in
    let b12 = u2 0 in
    let whole : o12 ≡ start ++ (b1 ++ (b2 ++ (b3 ++ (b4 ++ (b5 ++ (b6 ++ (b7 ++ (b8 ++ (b9 ++ (b10 ++ (b11 ++ b12))))))))))) = chain start o1 o12 b1 (b2 ++ (b3 ++ (b4 ++ (b5 ++ (b6 ++ (b7 ++ (b8 ++ (b9 ++ (b10 ++ (b11 ++ b12)))))))))) c.in_ok-put_u4.ensures
    (chain o1 o2 o12 b2 (b3 ++ (b4 ++ (b5 ++ (b6 ++ (b7 ++ (b8 ++ (b9 ++ (b10 ++ (b11 ++ b12))))))))) c.in_ok-put_u2.ensures
    (chain o2 o3 o12 b3 (b4 ++ (b5 ++ (b6 ++ (b7 ++ (b8 ++ (b9 ++ (b10 ++ (b11 ++ b12)))))))) c.in_ok-put_u2-2.ensures
    (chain o3 o4 o12 b4 (b5 ++ (b6 ++ (b7 ++ (b8 ++ (b9 ++ (b10 ++ (b11 ++ b12))))))) c.in_ok-put_pool.ensures
    (chain o4 o5 o12 b5 (b6 ++ (b7 ++ (b8 ++ (b9 ++ (b10 ++ (b11 ++ b12)))))) c.in_ok-put_section.ensures
    (chain o5 o6 o12 b6 (b7 ++ (b8 ++ (b9 ++ (b10 ++ (b11 ++ b12))))) (c.in_ok-put_u2-3.ensures ∙ ap (λ n. o5 ++ u2 n) c.interface_count.ensures)
    (chain o6 o7 o12 b7 (b8 ++ (b9 ++ (b10 ++ (b11 ++ b12)))) c.in_ok-put_section-2.ensures
    (chain o7 o8 o12 b8 (b9 ++ (b10 ++ (b11 ++ b12))) (c.in_ok-put_u2-4.ensures ∙ ap (λ n. o7 ++ u2 n) c.field_count.ensures)
    (chain o8 o9 o12 b9 (b10 ++ (b11 ++ b12)) c.in_ok-put_section-3.ensures
    (chain o9 o10 o12 b10 (b11 ++ b12) (c.in_ok-put_u2-5.ensures ∙ ap (λ n. o9 ++ u2 n) c.method_count.ensures)
    (chain o10 o11 o12 b11 b12 c.in_ok-put_methods.ensures
    (c.in_ok-put_u2-6.ensures))))))))))) in
    whole ∙ ap (λ xs. xs ++ (b1 ++ (b2 ++ (b3 ++ (b4 ++ (b5 ++ (b6 ++ (b7 ++ (b8 ++ (b9 ++ (b10 ++ (b11 ++ b12)))))))))))) c.new-out.ensures.items
