-- Lists that have each class once.
use Rattle.std.proofs.Common.{◌≡◌, ℕ, ◌==◌, ◌||◌, Bool, true, false, cond, List, [], ◌∷◌, ◌++◌, Option, None, Some, IfSome, drop, refl, sym, ◌∙◌, ap, arith}
use mathlib.Core.Logic.{⊎_elim}
use Rattle.std.specs.Prelude.{Contains}
use Rattle.std.specs.List.{list_any, flat_map}
use Rattle.std.specs.Option.{option_to_list}
use Rattle.std.proofs.lemmas.Bool.{cases_Bool, or_parts}
use Rattle.et_hierarchy.specs.Links.{LinkEntry}
use Rattle.et_hierarchy.specs.Ancestry.{Ancestry, ancestry_at, class_added, added_all, once, supers_over, field_order_over, ancestry_of, LooksUpward}
use Rattle.et_hierarchy.proofs.AddLemmas.{added_all-append}

once_class : (seen : List ℕ) (x : ℕ) → once seen ≡ seen → once (class_added seen x) ≡ class_added seen x
once_class seen x h =
    ⊎_elim
    (λ y. let e : class_added seen x ≡ seen = ap (λ b. cond b seen (seen ++ x ∷ [])) y in ap once e ∙ (h ∙ sym e))
    (λ n. let e : class_added seen x ≡ seen ++ x ∷ [] = ap (λ b. cond b seen (seen ++ x ∷ [])) n in ap once e ∙ (added_all-append [] seen (x ∷ []) ∙ ap (λ s. class_added s x) h))
    (cases_Bool (list_any (λ y. x == y) seen))

once_added : (seen xs : List ℕ) → once seen ≡ seen → once (added_all seen xs) ≡ added_all seen xs
once_added seen [] h = h
once_added seen (x ∷ xs) h = once_added (class_added seen x) xs (once_class seen x h)

pub once_again : (xs : List ℕ) → once (once xs) ≡ once xs
once_again xs = once_added [] xs refl

behind_cond : (k x : ℕ) (seen : List ℕ) (b : Bool) → cond b (k ∷ seen) (k ∷ (seen ++ x ∷ [])) ≡ k ∷ cond b seen (seen ++ x ∷ [])
behind_cond k x seen true = refl
behind_cond k x seen false = refl

behind_added : (k : ℕ) (seen : List ℕ) (x : ℕ) → (x == k) ≡ false → class_added (k ∷ seen) x ≡ k ∷ class_added seen x
behind_added k seen x h =
    ap (λ b. cond (b || list_any (λ y. x == y) seen) (k ∷ seen) (k ∷ (seen ++ x ∷ []))) h ∙ behind_cond k x seen (list_any (λ y. x == y) seen)

behind_all : (k : ℕ) (seen xs : List ℕ) → list_any (λ y. y == k) xs ≡ false → added_all (k ∷ seen) xs ≡ k ∷ added_all seen xs
behind_all k seen [] h = refl
behind_all k seen (x ∷ xs) h =
    let p = or_parts (x == k) (list_any (λ y. y == k) xs) h in
    ap (λ s. added_all s xs) (behind_added k seen x p.0) ∙ behind_all k (class_added seen x) xs p.1

once_behind : (k : ℕ) (xs : List ℕ) → list_any (λ y. y == k) xs ≡ false → once xs ≡ xs → once (k ∷ xs) ≡ k ∷ xs
once_behind k xs h e = behind_all k [] xs h ∙ ap (λ ys. k ∷ ys) e

over_upward : (rows : List Ancestry) (o : Option ℕ) → IfSome o (λ s. (ancestry_at rows s).field_order ≡ s ∷ drop 1 (ancestry_at rows s).field_order) → IfSome o (λ s. drop 1 (ancestry_at rows s).field_order ≡ (ancestry_at rows s).supers) → field_order_over rows o ≡ supers_over rows o
over_upward rows None first h = refl
over_upward rows (Some s) first h = first ∙ ap (λ (xs : List ℕ). s ∷ xs) h

-- where a class looks for a field is the list of itself and of its superclasses
pub upward_is : (l : LinkEntry) (rows : List Ancestry) (k : ℕ) (upward : List ℕ) → LooksUpward l rows → once (field_order_over rows l.above) ≡ field_order_over rows l.above
    → IfSome l.above (λ s. (ancestry_at rows s).field_order ≡ s ∷ drop 1 (ancestry_at rows s).field_order) → list_any (λ y. y == k) (supers_over rows l.above) ≡ false → upward ≡ k ∷ supers_over rows l.above → upward ≡ (ancestry_of l rows k).field_order
upward_is l rows k upward x same first new e =
    let over : field_order_over rows l.above ≡ supers_over rows l.above = over_upward rows l.above first x.over in
    let w : once (k ∷ field_order_over rows l.above) ≡ k ∷ field_order_over rows l.above = once_behind k (field_order_over rows l.above) (ap (list_any (λ y. y == k)) over ∙ new) same in
    e ∙ (ap (λ s. k ∷ s) (sym over) ∙ (sym w ∙ ap (λ is. once (k ∷ flat_map (λ i. (ancestry_at rows i).field_order) is ++ field_order_over rows l.above)) (sym x.no_interfaces)))

pub above_is : (P : ℕ → Type 0) (o : Option ℕ) (ys : List ℕ) → ((p : ℕ) → Contains (option_to_list o ++ ys) p → P p) → IfSome o P
above_is P None ys h = tt
above_is P (Some s) ys h = h s (0, omega arith, refl)

pub once_over : (rows : List Ancestry) (o : Option ℕ) → IfSome o (λ s. once (ancestry_at rows s).field_order ≡ (ancestry_at rows s).field_order) → once (field_order_over rows o) ≡ field_order_over rows o
once_over rows None h = refl
once_over rows (Some s) h = h
