use Rattle.std.proofs.Common.{ℕ, ◌<◌, ◌-◌, List, Some, length, sym, subst, arith}
use Rattle.std.specs.List.{slice_index_or}
use Rattle.std.proofs.lemmas.List.{get_or_default}
use Rattle.et_hierarchy.specs.Upward.{LeadsUp, HasListUp}
use Rattle.et_hierarchy.proofs.UpLemmas.{leads_within}
use Rattle.et_hierarchy.proofs.upward.lists_upward.Goals as goal

pub give-requires : goal.give-requires
give-requires c =
    let i : ℕ = c.loop-i.i - 1 in
    let class : ℕ = slice_index_or c.args.order.now i 0 in
    let lt : i < length c.args.order.now = omega (arith, c.loop-i.auto.i, c.loop-i-test.true) in
    leads_within c.args.table.now class _ c.in_ok-list.list c.requires.within (c.requires.order i 0 lt) c.loop-i.invariant.lists.each (subst (λ (xs : List ℕ). LeadsUp c.args.table.now (Some class) xs) (sym c.in_ok-list.ensures) c.in_ok-climb.ensures)

pub returns-clause-upward : goal.returns-clause-upward
returns-clause-upward c = λ k d lt.
    subst (HasListUp c.args.table.now c.loop-i.lists.items) (sym (get_or_default c.args.order.now k d 0 lt)) (c.loop-i.invariant.done k (omega (arith, c.loop-i-test.false)) lt)
