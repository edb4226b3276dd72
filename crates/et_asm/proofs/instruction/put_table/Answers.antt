use Rattle.std.proofs.Common.{◌≡◌, ◌++◌, ap, ◌∙◌, length, rules}
use Rattle.std.specs.List.{flat_map}
use Rattle.et_code.specs.declared.opcode.TheConstants.{TABLESWITCH}
use Rattle.et_asm.specs.Code.{offset4, bounds_bytes, switch_bytes, table_bytes}
use Rattle.et_asm.specs.Symbols.{places}
use Rattle.et_asm.proofs.Loops.{chain, on_ok}
use Rattle.et_asm.proofs.instruction.put_table.Goals as goal

pub returns : goal.returns
returns c =
    let labels = places c.args.labels.now.entries in
    let at = c.args.at in
    let names = c.args.names.now in
    let start = c.args.out.now.items in
    let o1 = c.put_switch.new.out.items in
    let o2 = c.put_offset4.new.out.items in
    let o3 = c.put_bounds.new.out.items in
    let end = c.put_offsets.new.out.items in
    let bounds : o3 ≡ o2 ++ bounds_bytes c.args.low (length names) = search rules in
    on_ok (λ last. chain start o1 end (switch_bytes TABLESWITCH at) (table_bytes labels at c.args.low names c.args.otherwise.now) c.in_ok-put_switch.ensures
    (chain o1 o2 end (offset4 labels at c.args.otherwise.now) (bounds_bytes c.args.low (length names) ++ flat_map (offset4 labels at) names) c.in_ok-put_offset4.ensures
    (chain o2 o3 end (bounds_bytes c.args.low (length names)) (flat_map (offset4 labels at) names) bounds last)))
    c.put_offsets.result c.put_offsets.ensures
