-- Slots, class by class.
use Rattle.std.proofs.Common.{◌≡◌, ℕ, ◌<◌, List, [], ◌∷◌, ◌++◌, length, get_or, sym, ◌∙◌, ap, subst, append_assoc, append-nil}
use Rattle.std.specs.Prelude.{All}
use Rattle.std.proofs.lemmas.List.{get_or_default}
use Rattle.et_hierarchy.specs.Ancestry.{Ancestry, ancestry_at, no_ancestry, IsBelow}
use Rattle.et_program.specs.declared.info.FieldInfo.{FieldInfo}
use Rattle.et_program.specs.Slots.{slot_of_field, placed_behind}

pub supers_below : (rows : List Ancestry) (i : ℕ) (r : Ancestry) (n : ℕ) (xs : List ℕ) → i < length rows → r ≡ get_or rows i r → xs ≡ r.supers → ((k : ℕ) → k < length rows → IsBelow n (ancestry_at rows k)) → All (λ k. k < n) xs
supers_below rows i r n xs lt is e below =
    let same : r ≡ ancestry_at rows i = is ∙ get_or_default rows i r no_ancestry lt in
    subst (All (λ k. k < n)) (sym (e ∙ ap (λ (x : Ancestry). x.supers) same)) (below i lt).supers

-- one more field gets its slot
pub placed_push : (base : ℕ → ℕ) (before fs : List FieldInfo) (f : FieldInfo) → placed_behind base before (fs ++ f ∷ []) ≡ placed_behind base before fs ++ record f { slot = slot_of_field base (before ++ fs) f } ∷ []
placed_push base before [] f = ap (λ (l : List FieldInfo). record f { slot = slot_of_field base l f } ∷ []) (sym (append-nil before))
placed_push base before (g ∷ fs) f =
    ap (λ l. record g { slot = slot_of_field base before g } ∷ l)
    (placed_push base (before ++ g ∷ []) fs f ∙ ap (λ (l : List FieldInfo). placed_behind base (before ++ g ∷ []) fs ++ record f { slot = slot_of_field base l f } ∷ []) (append_assoc before (g ∷ []) fs))
