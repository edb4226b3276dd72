-- The lists of superclasses and superinterfaces are determined, where no class is its own ancestor.
use Rattle.std.proofs.Common.{◌≡◌, ℕ, zero, suc, ◌<◌, ◌≤◌, Bool, true, false, List, length, set, replicate, sym, ◌∙◌, subst, arith}
use mathlib.Core.Logic.{⊎_elim}
use lib.Seq.{ext_get_or}
use Rattle.std.specs.Prelude.{All}
use Rattle.std.specs.List.{slice_index_or}
use Rattle.std.proofs.lemmas.Bool.{cases_Bool}
use Rattle.std.proofs.lemmas.List.{length-set, length-replicate}
use Rattle.std.proofs.lemmas.List.Elements.{Contains-get_or}
use Rattle.et_hierarchy.specs.Links.{LinkEntry, no_links, parents, IsAncestor, IsAcyclic, HasLinksWithin}
use Rattle.et_hierarchy.specs.Search.{IsMarkedIn, unmarked}
use Rattle.et_hierarchy.specs.Sorting.{is_done}
use Rattle.et_hierarchy.specs.Ancestry.{Ancestry, no_ancestry, ancestry_at, IsAncestry}
use Rattle.et_hierarchy.proofs.Marks.{unmarked-set, marked_before, no_marks}
use Rattle.et_hierarchy.proofs.Rounds.{ancestry_same}

module _ (table : List LinkEntry) (rows others : List Ancestry) (within : HasLinksWithin (length table) table) (acyclic : IsAcyclic table) (one : IsAncestry table rows) (two : IsAncestry table others) where
  -- each class from which one has come up to class u is marked as seen
  same_at : (fuel : ℕ) (seen : List Bool) (u : ℕ) → u < length table → length seen ≡ length table → ((v : ℕ) → IsMarkedIn seen v → IsAncestor table v u) → unmarked seen ≤ fuel → ancestry_at others u ≡ ancestry_at rows u
  same_at zero seen u lt len below few =
      ⊎_elim (λ y. absurd (acyclic u lt (below u y))) (λ n. let w = unmarked-set seen u (subst (λ m. u < m) (sym len) lt) n in absurd (omega arith)) (cases_Bool (is_done seen u))
  same_at (suc fuel) seen u lt len below few =
      let inside : u < length seen = subst (λ m. u < m) (sym len) lt in
      ⊎_elim
      (λ y. absurd (acyclic u lt (below u y)))
      (λ n.
      let w = unmarked-set seen u inside n in
      let above : All (λ p. ancestry_at others p ≡ ancestry_at rows p) (parents table u) = λ j d here.
      let p : ℕ = slice_index_or (parents table u) j d in
      let is = Contains-get_or (parents table u) j d here in
      same_at fuel (set seen u true) p (within u no_links lt j d here) (length-set seen u true ∙ len)
      (λ v m. ⊎_elim (λ e. subst (λ q. IsAncestor table q p) (sym e) (0, is)) (λ b. let a = below v b in (suc a.0, (u, a.1, is))) (marked_before seen u v inside m)) (omega arith) in
      two.row u lt ∙ (ancestry_same (slice_index_or table u no_links) rows others u above ∙ sym (one.row u lt)))
      (cases_Bool (is_done seen u))

  pub same_ancestries : rows ≡ others
  same_ancestries =
      ext_get_or no_ancestry rows others (one.each ∙ sym two.each)
      (λ k lt. sym (same_at (unmarked (replicate (length table) false)) (replicate (length table) false) k (subst (λ m. k < m) one.each lt) (length-replicate (length table) false) (λ v m. absurd (no_marks (length table) v m)) (omega arith)))
