-- The order of initialization goes on from the superclass.
use Rattle.std.proofs.Common.{◌≡◌, ℕ, ◌<◌, Bool, List, [], ◌∷◌, ◌++◌, length, Some, ◌∙◌, ap, reverse, append-nil}
use Rattle.std.specs.List.{slice_index_or, flat_map}
use Rattle.std.proofs.lemmas.List.{reverse-append}
use Rattle.std.proofs.lemmas.List.Concat.{flat_map-append}
use Rattle.et_hierarchy.specs.Links.{LinkEntry, no_links}
use Rattle.et_hierarchy.specs.Ancestry.{Ancestry, ancestry_at, once, added_all, IsAncestry, supers_over}
use Rattle.et_hierarchy.specs.Initialization.{with_interfaces, downward, class_order, OrderGoesOn}
use Rattle.et_hierarchy.proofs.AddLemmas.{added_all-append}

pub goes_on : (needs : ℕ → Bool) (table : List LinkEntry) (rows : List Ancestry) (k s : ℕ) → IsAncestry table rows → k < length table → (slice_index_or table k no_links).above ≡ Some s → OrderGoesOn needs table rows k s
goes_on needs table rows k s a lt e =
    let F : ℕ → List ℕ = with_interfaces needs table rows in
    let supers : (ancestry_at rows k).supers ≡ s ∷ (ancestry_at rows s).supers = ap (λ (r : Ancestry). r.supers) (a.row k lt) ∙ ap (supers_over rows) e in
    let down : downward rows k ≡ downward rows s ++ k ∷ [] = ap (λ (xs : List ℕ). reverse (k ∷ xs)) supers ∙ reverse-append (k ∷ []) (s ∷ (ancestry_at rows s).supers) in
    ap (λ (xs : List ℕ). once (flat_map F xs)) down ∙ (ap once (flat_map-append F (downward rows s) (k ∷ [])) ∙ (added_all-append [] (flat_map F (downward rows s)) (F k ++ []) ∙ ap (added_all (class_order needs table rows s)) (append-nil (F k))))
