use Rattle.std.proofs.Common.{◌≡◌, Bool, true, false, refl, sym, ◌∙◌, ap, inl, inr}
use Rattle.std.specs.Prelude.{◌⊎◌}
use Rattle.et_event.specs.declared.rows.Elements.{Elements}
use Rattle.et_event.specs.declared.rows.HeapRow.{HeapRow}
use Rattle.et_event.specs.declared.rows.HeapRow.TheVariants.{ArrayLength, GetField, GetStatic, LoadElement, PutField, StoreElement}
use Rattle.et_refs.specs.LiftedChanges.{is_lifted_row}
use Rattle.et_refs.specs.Rows.{is_get_static}
use Rattle.et_refs.proofs.rows.plan_of.Goals as goal

at_odds : (test : HeapRow → Bool) (r s : HeapRow) → test r ≡ false → test s ≡ true → r ≡ s → ⊥
at_odds test r s off on is = let both : true ≡ false = sym on ∙ (ap test (sym is) ∙ off) in absurd (cc)

-- rows that come to no plan
no_plan : (r : HeapRow) → is_get_static r ≡ false → is_lifted_row r ≡ false → (r ≡ GetStatic) ⊎ (r ≡ GetField) ⊎ (r ≡ PutField) ⊎ ((kind : Elements) × (r ≡ LoadElement kind)) ⊎ ((kind : Elements) × (r ≡ StoreElement kind)) ⊎ (r ≡ ArrayLength) → ⊥
no_plan r other not_lifted (inl is) = at_odds is_get_static r GetStatic other refl is
no_plan r other not_lifted (inr (inl is)) = at_odds is_lifted_row r GetField not_lifted refl is
no_plan r other not_lifted (inr (inr (inl is))) = at_odds is_lifted_row r PutField not_lifted refl is
no_plan r other not_lifted (inr (inr (inr (inl (kind, is))))) = at_odds is_lifted_row r (LoadElement kind) not_lifted refl is
no_plan r other not_lifted (inr (inr (inr (inr (inl (kind, is)))))) = at_odds is_lifted_row r (StoreElement kind) not_lifted refl is
no_plan r other not_lifted (inr (inr (inr (inr (inr is))))) = at_odds is_lifted_row r ArrayLength not_lifted refl is

pub unreachable-requires : goal.unreachable-requires
unreachable-requires g c = no_plan c.args.row c.requires.other c.requires.not_lifted c.in-GetStatic.is
