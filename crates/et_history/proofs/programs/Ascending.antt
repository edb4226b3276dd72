-- What each class has from those right above it, all have, where no class is its own ancestor.
use Rattle.std.proofs.Common.{◌≡◌, ℕ, zero, suc, ◌<◌, ◌≤◌, Bool, true, false, List, length, set, replicate, sym, ◌∙◌, subst, arith}
use mathlib.Core.Logic.{⊎_elim}
use Rattle.std.specs.Prelude.{All}
use Rattle.std.specs.List.{slice_index_or}
use Rattle.std.proofs.lemmas.Bool.{cases_Bool}
use Rattle.std.proofs.lemmas.List.{length-set, length-replicate}
use Rattle.std.proofs.lemmas.List.Elements.{Contains-get_or}
use Rattle.et_hierarchy.specs.Links.{LinkEntry, no_links, parents, IsAncestor, IsAcyclic, HasLinksWithin}
use Rattle.et_hierarchy.specs.Search.{IsMarkedIn, unmarked}
use Rattle.et_hierarchy.specs.Sorting.{is_done}
use Rattle.et_hierarchy.proofs.Marks.{unmarked-set, marked_before, no_marks}

module _ (table : List LinkEntry) (within : HasLinksWithin (length table) table) (acyclic : IsAcyclic table) (P : ℕ → Type 0) (step : (u : ℕ) → u < length table → All P (parents table u) → P u) where
  -- each class from which one has come up to class u is marked as seen
  up_from : (fuel : ℕ) (seen : List Bool) (u : ℕ) → u < length table → length seen ≡ length table → ((v : ℕ) → IsMarkedIn seen v → IsAncestor table v u) → unmarked seen ≤ fuel → P u
  up_from zero seen u lt len below few =
      ⊎_elim (λ y. absurd (acyclic u lt (below u y))) (λ n. let w = unmarked-set seen u (subst (λ m. u < m) (sym len) lt) n in absurd (omega arith)) (cases_Bool (is_done seen u))
  up_from (suc fuel) seen u lt len below few =
      let inside : u < length seen = subst (λ m. u < m) (sym len) lt in
      ⊎_elim
      (λ y. absurd (acyclic u lt (below u y)))
      (λ n.
      let w = unmarked-set seen u inside n in
      step u lt (λ j d here.
      let p : ℕ = slice_index_or (parents table u) j d in
      let is = Contains-get_or (parents table u) j d here in
      up_from fuel (set seen u true) p (within u no_links lt j d here) (length-set seen u true ∙ len)
      (λ v m. ⊎_elim (λ e. subst (λ q. IsAncestor table q p) (sym e) (0, is)) (λ b. let a = below v b in (suc a.0, (u, a.1, is))) (marked_before seen u v inside m)) (omega arith)))
      (cases_Bool (is_done seen u))

  pub each : (k : ℕ) → k < length table → P k
  each k lt = up_from (unmarked (replicate (length table) false)) (replicate (length table) false) k lt (length-replicate (length table) false) (λ v m. absurd (no_marks (length table) v m)) (omega arith)
