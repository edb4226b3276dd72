use Rattle.std.proofs.Common.{◌∙◌}
use Rattle.et_hierarchy.proofs.FaultLemmas.{fault_no_super, fault_cycle, fault_final, faultless, no_cycle, first_cycle, indexed_free}
use Rattle.et_hierarchy.proofs.check.check_set.Goals as goal

pub returns-in-Some : goal.returns-in-Some
returns-in-Some c = fault_no_super c.args.set.now c.in-Some.class (indexed_free _ _ _ c.in-Places.is c.in_ok-places.ensures) c.in-Some.ensures

pub returns-in-Some-2 : goal.returns-in-Some-2
returns-in-Some-2 c =
    fault_cycle c.args.set.now c.in-Some-2.class (indexed_free _ _ _ c.in-Places.is c.in_ok-places.ensures) c.in-None.ensures
    (first_cycle c.args.set.now _ _ _ (c.as_slice.ensures.value ∙ c.in_ok-table.ensures.table) c.in-Some-2.is c.in_ok-class.ensures)

pub returns-in-Some-first_final : goal.returns-in-Some-first_final
returns-in-Some-first_final c =
    fault_final c.args.set.now c.in-Some-first_final.class (indexed_free _ _ _ c.in-Places.is c.in_ok-places.ensures) c.in-None.ensures
    (no_cycle c.args.set.now _ _ (c.as_slice.ensures.value ∙ c.in_ok-table.ensures.table) c.in-None-2.is c.in_ok-class.ensures) c.in-Some-first_final.ensures

pub returns : goal.returns
returns c = (
  faultless c.args.set.now (indexed_free _ _ _ c.in-Places.is c.in_ok-places.ensures) c.in-None.ensures (no_cycle c.args.set.now _ _ (c.as_slice.ensures.value ∙ c.in_ok-table.ensures.table) c.in-None-2.is c.in_ok-class.ensures) c.in-None-first_final.ensures,
  c.in_ok-table.ensures.table,
)
