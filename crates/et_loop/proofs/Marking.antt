-- Stamps that are written, and the number of deaths.
use Rattle.std.proofs.Common.{◌≡◌, ℕ, zero, suc, ◌+◌, ◌<◌, ◌≤◌, ◌⊎◌, List, map, get_or, length, Contains, ◌∙◌, subst, inl, inr, add-one, arith}
use Rattle.std.specs.List.Sorted.{IsStrictlyIncreasing}
use Rattle.std.proofs.lemmas.List.{length-map}
use Rattle.std.proofs.lemmas.Grind.{get_or_default_zero}
use Rattle.et_graph.specs.Graph.{Graph, IsMade, IsReached}
use Rattle.et_graph.proofs.Sound.{fresh_range}
use Rattle.et_graph.proofs.Deaths.{first_map}
use Rattle.et_graph.specs.Listed.{AreListed}
use Rattle.et_loop.specs.Kept.{IsStepTo}
use Rattle.et_state.specs.declared.ends.EventEnd.{EventEnd}
use Rattle.et_state.specs.declared.ends.EventEnd.TheVariants as ends
use Rattle.et_loop.specs.Stamping.{Restamps, StepsWhereDone}

-- the time stands at each object above `before` and up to n, and the rest is as before
pub record IsNew (old new : List ℕ) (before n t : ℕ) : Type 0 where
  pub long : length new ≡ length old
  pub each : (o : ℕ) → before < o → o ≤ n → get_or new o 0 ≡ t
  pub others : (o : ℕ) → (o ≤ before) ⊎ (n < o) → get_or new o 0 ≡ get_or old o 0

-- the stamps after an event, in three steps
pub restamps_from : (e before made : ℕ) (lost old grown marked new : List ℕ) → ((o : ℕ) → get_or grown o 0 ≡ get_or old o 0) → ((o : ℕ) → Contains lost o → get_or marked o 0 ≡ e) → ((o : ℕ) → ¬ Contains lost o → get_or marked o 0 ≡ get_or grown o 0)
    → ((o : ℕ) → before < o → o ≤ made → get_or new o 0 ≡ e + 1) → ((o : ℕ) → (o ≤ before) ⊎ (made < o) → get_or new o 0 ≡ get_or marked o 0)
    → Restamps e before made lost (λ o. get_or old o 0) (λ o. get_or new o 0)
restamps_from e before made lost old grown marked new kept each others fresh rest = record {
  fresh = λ o a b. fresh o a b ∙ add-one e;
  lost_before = λ o a c. rest o (inl a) ∙ each o c;
  kept = λ o side out. rest o side ∙ (others o out ∙ kept o);
}

-- what a step loses was made
pub lost_made : (g h : Graph) (lost : List ℕ) → ((o : ℕ) → IsReached g o → IsMade g o) → IsStepTo g h lost → (o : ℕ) → Contains lost o → o ≤ h.made
lost_made g h lost made s o c =
    let count = s.1.draft.made in
    elim (s.1.draft.lost_known o c) [
      | inl r ↦ let m = made o r in omega (arith, m.1, count)
      | inr f ↦ let range = fresh_range g (record { after = h; fresh = s.0; lost = lost }) s.1 o f in omega (arith, range.1, count)
    ]

pub done_lost_made : (end : EventEnd) (g h : Graph) (lost : List ℕ) → ((o : ℕ) → IsReached g o → IsMade g o) → StepsWhereDone end g h lost → (end ≡ ends.Done) ⊎ (end ≡ ends.Waited) → (o : ℕ) → Contains lost o → o ≤ h.made
done_lost_made end g h lost made s (inl e) o c = lost_made g h lost made (subst (λ (x : EventEnd). StepsWhereDone x g h lost) e s) o c
done_lost_made end g h lost made s (inr e) o c = lost_made g h lost made (subst (λ (x : EventEnd). StepsWhereDone x g h lost) e s) o c

rising_above : (xs : List ℕ) → IsStrictlyIncreasing xs → ((k : ℕ) → k < length xs → 0 < get_or xs k 0) → (k : ℕ) → k < length xs → k < get_or xs k 0
rising_above xs rise above zero lt = above 0 lt
rising_above xs rise above (suc k) lt =
    let before = rising_above xs rise above k (omega arith) in
    let next = rise k (omega arith) in
    let e : k + 1 ≡ suc k = omega arith in
    let at : get_or xs k 0 < get_or xs (suc k) 0 = subst (λ (j : ℕ). get_or xs k 0 < get_or xs j 0) e next in
    omega (arith, before, at)

at_most : (n : ℕ) (xs : List ℕ) → IsStrictlyIncreasing xs → ((k : ℕ) → k < length xs → (0 < get_or xs k 0) × (get_or xs k 0 ≤ n)) → (m : ℕ) → length xs ≡ m → m ≤ n
at_most n xs rise within zero e = omega arith
at_most n xs rise within (suc m) e =
    let lt : m < length xs = omega arith in
    let a = rising_above xs rise (λ k l. (within k l).0) m lt in
    let b = (within m lt).1 in
    omega (arith, a, b)

-- there are no more deaths than objects
pub few_listed : (g : Graph) (stamps : ℕ → ℕ) (ds : List (ℕ × ℕ)) → AreListed g stamps ds → length ds ≤ g.made
few_listed g stamps ds l =
    let os : List ℕ = map (λ (d : ℕ × ℕ). d.0) ds in
    at_most g.made os l.rising
    (λ k lt. let f = first_map ds (get_or os k 0) (k, lt, get_or_default_zero os k (get_or os k 0) lt) in let d = ((l.exact (get_or os k 0) f.0).0 f.1).0 in (d.0.0, d.0.1))
    (length ds) (length-map ds (λ (d : ℕ × ℕ). d.0))
