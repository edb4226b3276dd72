use Rattle.std.proofs.Common.{ℕ, Bool, false, ◌∙◌, ap}
use Rattle.std.specs.Prelude.{filter}
use Rattle.std.specs.List.{slice_index_or}
use Rattle.et_hierarchy.proofs.Rounds.{next_interfaces}
use Rattle.et_hierarchy.proofs.OrderLemmas.{with_added}
use Rattle.et_hierarchy.proofs.order.add_class.Goals as goal

pub list_interfaces-requires : goal.list_interfaces-requires
list_interfaces-requires c = next_interfaces c.args.table.now c.args.class _ _ c.requires.within c.requires.class c.index-table-class.is c.requires.same

pub returns : goal.returns
returns c =
    let needs : ℕ → Bool = λ k. slice_index_or c.args.needs.now k false in
    with_added needs c.args.table.now c.args.rows.now c.args.class c.index-table-class.result c.args.work.now.order _ _ _ _ c.requires.class c.index-table-class.is
    (c.in_ok-found.ensures ∙ ap (filter needs) (c.as_slice.ensures ∙ c.in_ok-list_interfaces.ensures)) c.as_slice-2.ensures.value c.in_ok-add_all.ensures c.in_ok-add.ensures
