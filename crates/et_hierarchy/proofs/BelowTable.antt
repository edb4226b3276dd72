-- Links that are turned round.
use Rattle.std.proofs.Common.{◌≡◌, ℕ, zero, suc, ◌<◌, ◌≤◌, List, [], ◌∷◌, ◌++◌, length, get_or, set, sym, ◌∙◌, ap, subst, arith, append_assoc, get_or-set_same, get_or-set_other}
use mathlib.Core.Logic.{⊎_elim}
use Rattle.std.specs.Prelude.{All, Contains}
use Rattle.std.specs.List.{slice_index_or}
use Rattle.std.specs.Option.{option_to_list}
use Rattle.std.proofs.lemmas.Bool.{cases_eq, cases_lt}
use Rattle.std.proofs.lemmas.List.{get_or_default, get_or_past, length-set}
use Rattle.std.proofs.lemmas.List.Elements.{All-push, Contains-append_left, Contains-push}
use Rattle.et_base.proofs.Lists.{Contains-none}
use Rattle.et_hierarchy.specs.Links.{LinkEntry, no_links, parents_of, parents, IsAncestorIn, IsAncestor, HasLinksWithin}

-- ONE LINK MORE

abbrev pub pushed : LinkEntry → ℕ → LinkEntry
pushed l c = record l { interfaces = l.interfaces ++ c ∷ [] }

pushed_parents : (l : LinkEntry) (c : ℕ) → parents_of (pushed l c) ≡ parents_of l ++ c ∷ []
pushed_parents l c = sym (append_assoc (option_to_list l.above) l.interfaces (c ∷ []))

module _ (below : List LinkEntry) (p c : ℕ) (l : LinkEntry) (inside : p < length below) (is : l ≡ get_or below p l) where
  abbrev after : List LinkEntry
  after = set below p (pushed l c)

  there : slice_index_or below p no_links ≡ l
  there = sym (is ∙ get_or_default below p l no_links inside)

  at : parents after p ≡ parents below p ++ c ∷ []
  at = ap parents_of (get_or-set_same below p (pushed l c) no_links inside) ∙ (pushed_parents l c ∙ ap (λ (x : LinkEntry). parents_of x ++ c ∷ []) (sym there))

  pub push_kept : (q x : ℕ) → Contains (parents below q) x → Contains (parents after q) x
  push_kept q x h =
      ⊎_elim
      (λ e. subst (λ r. Contains (parents after r) x) (sym e) (subst (λ (ps : List ℕ). Contains ps x) (sym at) (Contains-append_left (parents below p) (c ∷ []) x (subst (λ r. Contains (parents below r) x) e h))))
      (λ ne. subst (λ (y : LinkEntry). Contains (parents_of y) x) (sym (get_or-set_other below p q (pushed l c) no_links ne)) h)
      (cases_eq q p)

  pub push_there : Contains (parents after p) c
  push_there = subst (λ (ps : List ℕ). Contains ps c) (sym at) (Contains-push (parents below p) c)

  pub push_within : (n : ℕ) → c < n → HasLinksWithin n below → HasLinksWithin n after
  push_within n lt h i d less =
      let inside_i : i < length below = omega (arith, length-set below p (pushed l c)) in
      ⊎_elim
      (λ e.
      let one : get_or after i d ≡ pushed l c = ap (λ r. get_or after r d) e ∙ get_or-set_same below p (pushed l c) d inside in
      subst (λ (y : LinkEntry). All (λ k. k < n) (parents_of y)) (sym one)
      (subst (All (λ k. k < n)) (sym (pushed_parents l c)) (All-push (λ k. k < n) (parents_of l) c (subst (λ (y : LinkEntry). All (λ k. k < n) (parents_of y)) (sym is) (h p l inside)) lt)))
      (λ ne. subst (λ (y : LinkEntry). All (λ k. k < n) (parents_of y)) (sym (get_or-set_other below p i (pushed l c) d ne)) (h i d inside_i))
      (cases_eq i p)

-- all of those right above were linked
pub linked_all : (below : List LinkEntry) (ps : List ℕ) (c i : ℕ) → length ps ≤ i → ((j : ℕ) → j < i → j < length ps → Contains (parents below (get_or ps j 0)) c) → (p : ℕ) → Contains ps p → Contains (parents below p) c
linked_all below ps c i le h p d =
    subst (λ q. Contains (parents below q) c) (sym (get_or_default ps d.0 p 0 d.1) ∙ d.2) (h d.0 (omega (arith, d.1)) d.1)

-- nothing is right above what is no class
pub parents_past : (table : List LinkEntry) (k p : ℕ) → Contains (parents table k) p → k < length table
parents_past table k p d =
    ⊎_elim
    (λ lt. lt)
    (λ past. absurd (Contains-none p (subst (λ (l : LinkEntry). Contains (parents_of l) p) (get_or_past table k no_links past) d)))
    (cases_lt k (length table))

-- A WAY, TURNED ROUND

module _ (table below : List LinkEntry) (turned : (c p : ℕ) → Contains (parents table c) p → Contains (parents below p) c) where
  begins : (n x k a : ℕ) → Contains (parents below x) k → IsAncestorIn below k n a → IsAncestorIn below x (suc n) a
  begins zero x k a first way = (k, first, way)
  begins (suc n) x k a first (u, way, last) = (u, begins n x k u first way, last)

  way_down : (n k a : ℕ) → IsAncestorIn table k n a → IsAncestorIn below a n k
  way_down zero k a way = turned k a way
  way_down (suc n) k a (u, way, last) = begins n a u k (turned u a last) (way_down n k u way)

  pub cycle_down : (k : ℕ) → IsAncestor table k k → IsAncestor below k k
  cycle_down k (n, way) = (n, way_down n k k way)
