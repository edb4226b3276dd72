use Rattle.std.proofs.Common.{◌<◌, ◌++◌, ◌∷◌, [], length, get_or, ap, ◌∙◌, sym, arith}
use Rattle.et_hierarchy.specs.Ancestry.{ancestry_at}
use Rattle.et_hierarchy.proofs.AddLemmas.{add_more, add_pair, row_at}
use Rattle.et_hierarchy.proofs.tables.add_interfaces.Goals as goal

pub loop-interface-preserved : goal.loop-interface-preserved
loop-interface-preserved c =
    let lt : c.loop-interface.interface-index < length c.args.interfaces.now = omega arith in
    let x = get_or c.args.interfaces.now c.loop-interface.interface-index 0 in
    let e = row_at c.args.rows.now x _ (c.requires c.loop-interface.interface-index 0 lt) c.index-rows-interface.is in
    add_more (λ i. (ancestry_at c.args.rows.now i).superinterfaces ++ i ∷ []) c.args.interfaces.now c.loop-interface.interface-index _ _ _ (c.superinterfaces.result.now ++ x ∷ []) lt c.loop-interface.invariant
    (ap (λ r. r.superinterfaces ++ x ∷ []) e ∙ ap (λ s. s ++ x ∷ []) (sym c.superinterfaces.ensures)) (add_pair c.loop-interface.list c.add_all.new.list c.add.new.self c.superinterfaces.result.now x c.in_ok-add_all.ensures c.in_ok-add.ensures)
