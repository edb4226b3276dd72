-- The marks of classes, each of which is in a list once.
use Rattle.std.proofs.Common.{◌≡◌, ℕ, zero, suc, ◌+◌, ◌<◌, ◌≤◌, ◌==◌, Bool, true, false, cond, List, [], ◌∷◌, ◌++◌, length, drop, take, get_or, set, replicate, refl, sym, ◌∙◌, ap, subst, add-one, drop-cons, take_all, get_or-set_same, get_or-set_other, true≢false}
use mathlib.Core.Logic.{⊎_elim}
use Rattle.std.specs.Prelude.{Contains}
use Rattle.std.specs.List.{slice_index_or, list_any}
use Rattle.std.proofs.lemmas.Bool.{cases_Bool, cases_eq, eqb-true, eq-eqb}
use Rattle.std.proofs.lemmas.List.{drop_all}
use Rattle.std.proofs.lemmas.List.Elements.{Contains-get_or}
use Rattle.et_base.proofs.Lists.{Contains-none, Contains-cons, any_contains, contains_any}
use Rattle.et_hierarchy.specs.Search.{IsMarkedIn, AreMarksOf}
use Rattle.et_hierarchy.specs.Ancestry.{class_added}
use Rattle.et_hierarchy.proofs.Marks.{marked_within}

-- what is marked is in the list, which is left as it is
pub added_marked : (seen inside : List ℕ) (marks read : List Bool) (k : ℕ) (b : Bool) → inside ≡ seen → AreMarksOf inside marks → read ≡ marks → b ≡ slice_index_or read k false → b ≡ true → seen ≡ class_added seen k
added_marked seen inside marks read k b view are same is m =
    let there : list_any (λ y. k == y) seen ≡ true = ap (list_any (λ y. k == y)) (sym view) ∙ (sym (are k) ∙ (ap (λ bs. slice_index_or bs k false) (sym same) ∙ (sym is ∙ m))) in
    sym (ap (λ t. cond t seen (seen ++ k ∷ [])) there)

-- .. and what isn't is put behind it
pub added_new : (seen inside : List ℕ) (marks read : List Bool) (k : ℕ) (b : Bool) → inside ≡ seen → AreMarksOf inside marks → read ≡ marks → b ≡ slice_index_or read k false → b ≡ false → inside ++ k ∷ [] ≡ class_added seen k
added_new seen inside marks read k b view are same is m =
    let new : list_any (λ y. k == y) seen ≡ false = ap (list_any (λ y. k == y)) (sym view) ∙ (sym (are k) ∙ (ap (λ bs. slice_index_or bs k false) (sym same) ∙ (sym is ∙ m))) in
    ap (λ xs. xs ++ k ∷ []) view ∙ sym (ap (λ t. cond t seen (seen ++ k ∷ [])) new)

nothing_there : (n u : ℕ) → slice_index_or (replicate n false) u false ≡ false
nothing_there zero u = refl
nothing_there (suc n) zero = refl
nothing_there (suc n) (suc u) = nothing_there n u

nothing_behind : (marks : List Bool) (n u : ℕ) → slice_index_or (marks ++ replicate n false) u false ≡ slice_index_or marks u false
nothing_behind [] n u = nothing_there n u
nothing_behind (m ∷ ms) n zero = refl
nothing_behind (m ∷ ms) n (suc u) = nothing_behind ms n u

-- a place that is made isn't marked
pub places_made : (marks grown : List Bool) (n m : ℕ) → length marks ≤ n → grown ≡ take n marks ++ replicate m false → (u : ℕ) → slice_index_or grown u false ≡ slice_index_or marks u false
places_made marks grown n m le is u =
    ap (λ bs. slice_index_or bs u false) (is ∙ ap (λ bs. bs ++ replicate m false) (take_all n marks le)) ∙ nothing_behind marks m u

-- THE MARKS ARE TAKEN AWAY from the classes of a list, one after the other: what is marked still is one of the others

pub record IsUnmarking (os : List ℕ) (i n : ℕ) (marks : List Bool) : Type 0 where
  pub long : length marks ≡ n
  pub left : (u : ℕ) → IsMarkedIn marks u → Contains (drop i os) u

pub unmarking_begun : (os : List ℕ) (marks : List Bool) → AreMarksOf os marks → IsUnmarking os 0 (length marks) marks
unmarking_begun os marks are = record {
  long = refl;
  left = λ u m. any_contains (λ y. u == y) u (λ y t. sym (eqb-true u y t)) os (sym (are u) ∙ m);
}

pub unmarking_within : (os : List ℕ) (i : ℕ) (marks old : List Bool) → IsUnmarking os i (length old) marks → AreMarksOf os old → i < length os → get_or os i 0 < length marks
unmarking_within os i marks old un are lt =
    let o : ℕ = get_or os i 0 in
    let here : list_any (λ y. o == y) os ≡ true = contains_any (λ y. o == y) o (eq-eqb o o refl) os (Contains-get_or os i 0 lt) in
    subst (λ m. o < m) (sym un.long) (marked_within old o (are o ∙ here))

pub unmarking_next : (os : List ℕ) (i n : ℕ) (marks : List Bool) → IsUnmarking os i n marks → i < length os → get_or os i 0 < length marks → length (set marks (get_or os i 0) false) ≡ length marks → IsUnmarking os (i + 1) n (set marks (get_or os i 0) false)
unmarking_next os i n marks un lt within same =
    let o : ℕ = get_or os i 0 in
    let d : drop i os ≡ o ∷ drop (i + 1) os = rw (add-one, drop-cons os i 0) refl in
    record {
      long = same ∙ un.long;
      left = λ u m.
          ⊎_elim
          (λ e. absurd (true≢false (sym (subst (λ v. slice_index_or (set marks o false) v false ≡ true) e m) ∙ get_or-set_same marks o false false within)))
          (λ ne.
          ⊎_elim
          (λ e. absurd (ne (sym e)))
          (λ h. h)
          (Contains-cons o (drop (i + 1) os) u (subst (λ ys. Contains ys u) d (un.left u (sym (get_or-set_other marks o u false false ne) ∙ m)))))
          (cases_eq u o);
    }

pub unmarking_done : (os : List ℕ) (i n : ℕ) (marks : List Bool) → IsUnmarking os i n marks → length os ≤ i → AreMarksOf [] marks
unmarking_done os i n marks un over u =
    ⊎_elim
    (λ m. absurd (Contains-none u (subst (λ ys. Contains ys u) (drop_all i os over) (un.left u m))))
    (λ e. e)
    (cases_Bool (slice_index_or marks u false))
