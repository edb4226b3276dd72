-- A binary search among sorted pairs.
use Rattle.std.proofs.Common.{◌≡◌, ℕ, Result, Ok, Err, false, is_ok, not, List, [], ◌∷◌, filter, length, get_or, Contains, ap, Ordering, Less, Greater, refl, sym, ◌∙◌, subst, arith, inl, inr}
use Rattle.std.specs.Cmp.{IsTotalOrder, nat_cmp_total, on_total, then_total}
use Rattle.std.specs.Ordering.{nat_cmp, ordering_then}
use Rattle.std.specs.List.Sorted.{IsSorted, IsBinarySearchResult, IsSearchInRange}
use Rattle.std.proofs.lemmas.Bool.{cases_Bool, cases_lt}
use Rattle.std.proofs.lemmas.List.Sorted.{searchable_from_sorted}
use Rattle.std.proofs.lemmas.Map.Lookups.{exact_unsigned, exact_pairs}
use Rattle.et_graph.specs.Edit.{has_pair}
use Rattle.et_graph.proofs.Lists.{contains_has_pair, has_pair_contains}

abbrev pub pair_cmp : ℕ × ℕ → ℕ × ℕ → Ordering
pair_cmp p q = ordering_then (nat_cmp p.0 q.0) (nat_cmp p.1 q.1)

pub pairs_total : IsTotalOrder pair_cmp
pairs_total = then_total (on_total (λ p. p.0) nat_cmp_total) (on_total (λ p. p.1) nat_cmp_total)

not_less : (p : ℕ × ℕ) → pair_cmp p p ≡ Less → ⊥
not_less p e = let h : Less ≡ Greater = sym e ∙ pairs_total.antisymm p p ∙ (rw e refl) in absurd cc

not_greater : (p : ℕ × ℕ) → pair_cmp p p ≡ Greater → ⊥
not_greater p e = let h : Greater ≡ Less = sym e ∙ pairs_total.antisymm p p ∙ (rw e refl) in absurd cc

no_pair : (ps : List (ℕ × ℕ)) (p : ℕ × ℕ) → ¬ Contains ps p → has_pair ps p ≡ false
no_pair ps p out =
    elim (cases_Bool (has_pair ps p)) [
      | inl t ↦ absurd (out (has_pair_contains ps p t))
      | inr f ↦ f
    ]

-- in sorted pairs it finds a pair exactly where there is one
pub found_is_there : (ps : List (ℕ × ℕ)) (p : ℕ × ℕ) (r : Result ℕ ℕ) → IsSearchInRange r (length ps) → IsBinarySearchResult (λ q. pair_cmp q p) ps r → IsSorted pair_cmp ps → is_ok r ≡ has_pair ps p
found_is_there ps p (Ok i) within at sorted =
    let here : get_or ps i p ≡ p = exact_pairs nat_cmp nat_cmp exact_unsigned exact_unsigned (get_or ps i p) p (at p) in
    sym (contains_has_pair ps p (i, within, here))
found_is_there ps p (Err i) within point sorted =
    let split = point (searchable_from_sorted pairs_total (λ (q : ℕ × ℕ). q) ps p sorted) in
    sym (no_pair ps p (λ c. elim (cases_lt c.0 i) [
      | inl before ↦ not_less p (subst (λ (q : ℕ × ℕ). pair_cmp q p ≡ Less) c.2 (split.0 c.0 p (omega arith) before))
      | inr past ↦ not_greater p (subst (λ (q : ℕ × ℕ). pair_cmp q p ≡ Greater) c.2 (split.1 c.0 p past c.1))
    ]))

keeps_all : (ps : List (ℕ × ℕ)) → ps ≡ filter (λ p. not (has_pair [] p)) ps
keeps_all [] = refl
keeps_all (p ∷ ps) = ap (λ (qs : List (ℕ × ℕ)). p ∷ qs) (keeps_all ps)

-- where nothing is cut all pairs stay
pub none_cut : (cut ps : List (ℕ × ℕ)) → length cut ≡ 0 → ps ≡ filter (λ p. not (has_pair cut p)) ps
none_cut [] ps e = keeps_all ps
none_cut (q ∷ cut) ps e = absurd (omega arith)
