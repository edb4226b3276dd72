-- Deaths that are listed one after the other.
use Rattle.std.proofs.Common.{◌≡◌, ℕ, ◌+◌, ◌<◌, ◌≤◌, List, [], ◌∷◌, ◌++◌, length, get_or, Contains, map, sym, ◌∙◌, ap, subst, arith}
use mathlib.Core.Logic.{⊎_elim}
use Rattle.std.specs.List.Sorted.{IsStrictlyIncreasing}
use Rattle.std.proofs.lemmas.Bool.{cases_lt}
use Rattle.std.proofs.lemmas.List.{map-append}
use Rattle.std.proofs.lemmas.List.Elements.{Contains-append_left, Contains-push, Contains-push_cases, Contains-get_or}
use Rattle.et_base.proofs.Lists.{Contains-none, rising_push}
use Rattle.et_heap.specs.Objects.{Objects}
use Rattle.et_flush.specs.declared.times.TheConstants.{NOW}
use Rattle.et_flush.specs.Searches.{AreAllHeld, AreDyingIn}
use Rattle.et_flush.proofs.Holding.{below_push}
use Rattle.et_flush.proofs.Listings.{each_at}

abbrev pub firsts : List (ℕ × ℕ) → List ℕ
firsts ds = map (λ d. d.0) ds

-- THE LIST SO FAR, of the first i objects
pub record AreListedTo (held : List ℕ) (time : ℕ → ℕ) (i : ℕ) (ds : List (ℕ × ℕ)) : Type 0 where
  pub rising : IsStrictlyIncreasing (firsts ds)
  pub below : i < length held → (k : ℕ) → k < length (firsts ds) → get_or (firsts ds) k 0 < get_or held i 0
  pub each : (o t : ℕ) → Contains ds (o, t) → Contains held o × (time o ≡ t) × (t < NOW)
  pub all : (k : ℕ) → k < i → time (get_or held k 0) < NOW → Contains ds (get_or held k 0, time (get_or held k 0))

pub listed_none : (held : List ℕ) (time : ℕ → ℕ) (ds : List (ℕ × ℕ)) → ds ≡ [] → AreListedTo held time 0 ds
listed_none held time ds none = record {
  rising = λ k lt. let e : length (firsts ds) ≡ 0 = ap (λ (xs : List (ℕ × ℕ)). length (firsts xs)) none in absurd (omega arith);
  below = λ _ k lt. let e : length (firsts ds) ≡ 0 = ap (λ (xs : List (ℕ × ℕ)). length (firsts xs)) none in absurd (omega arith);
  each = λ o t c. absurd (Contains-none (o, t) (subst (λ (xs : List (ℕ × ℕ)). Contains xs (o, t)) none c));
  all = λ k lt. absurd (omega arith);
}

firsts_push : (ds : List (ℕ × ℕ)) (o t : ℕ) → firsts (ds ++ (o, t) ∷ []) ≡ firsts ds ++ o ∷ []
firsts_push ds o t = map-append (λ d. d.0) ds ((o, t) ∷ [])

module _ (held : List ℕ) (time : ℕ → ℕ) (i : ℕ) (ds ds' : List (ℕ × ℕ)) (o t : ℕ) (rises : IsStrictlyIncreasing held) (are : AreListedTo held time i ds)
    (lt : i < length held) (number : o ≡ get_or held i 0) (timed : t ≡ time o) where
  later : i + 1 < length held → get_or held i 0 < get_or held (i + 1) 0
  later more = rises i more

  -- one more dies
  pub listed_hit : ds' ≡ ds ++ (o, t) ∷ [] → t < NOW → AreListedTo held time (i + 1) ds'
  listed_hit push small =
      let before : (k : ℕ) → k < length (firsts ds) → get_or (firsts ds) k 0 < o = λ k less. omega (arith, are.below lt k less) in
      subst (λ (xs : List (ℕ × ℕ)). AreListedTo held time (i + 1) xs) (sym push)
      (record {
        rising = subst (λ (xs : List ℕ). IsStrictlyIncreasing xs) (sym (firsts_push ds o t)) (rising_push (firsts ds) o are.rising before);
        below = λ more. subst (λ (xs : List ℕ). (k : ℕ) → k < length xs → get_or xs k 0 < get_or held (i + 1) 0) (sym (firsts_push ds o t)) (below_push (firsts ds) o (get_or held (i + 1) 0) before (omega (arith, later more)));
        each = λ x v c.
            ⊎_elim
            (λ d. are.each x v d)
            (λ e.
            subst (λ (p : ℕ × ℕ). Contains held p.0 × (time p.0 ≡ p.1) × (p.1 < NOW)) e
            (subst (λ (z : ℕ). Contains held z) (sym number) (Contains-get_or held i 0 lt), sym timed, small))
            (Contains-push_cases ds (o, t) (x, v) c);
        all = λ k less below.
            ⊎_elim
            (λ b. Contains-append_left ds ((o, t) ∷ []) (get_or held k 0, time (get_or held k 0)) (are.all k b below))
            (λ g.
            let e : i ≡ k = omega arith in
            let at : o ≡ get_or held k 0 = number ∙ ap (λ (j : ℕ). get_or held j 0) e in
            let same_time : t ≡ time (get_or held k 0) = timed ∙ ap (λ (z : ℕ). time z) at in
            subst (λ (z : ℕ). Contains (ds ++ (o, t) ∷ []) (z, time (get_or held k 0))) at
            (subst (λ (w : ℕ). Contains (ds ++ (o, t) ∷ []) (o, w)) same_time (Contains-push ds (o, t))))
            (cases_lt k i);
      })

  -- one more doesn't
  pub listed_miss : NOW ≤ t → AreListedTo held time (i + 1) ds
  listed_miss lives = record {
    rising = are.rising;
    below = λ more k less. omega (arith, are.below lt k less, later more);
    each = are.each;
    all = λ k less below.
        ⊎_elim
        (λ b. are.all k b below)
        (λ g.
        let e : i ≡ k = omega arith in
        let at : o ≡ get_or held k 0 = number ∙ ap (λ (j : ℕ). get_or held j 0) e in
        absurd (omega (arith, below, timed, ap (λ (z : ℕ). time z) at)))
        (cases_lt k i);
  }

pub below_are : (heap : Objects) (held : List ℕ) (time : ℕ → ℕ) (i : ℕ) (ds : List (ℕ × ℕ)) → AreListedTo held time i ds → length held ≤ i → AreAllHeld heap held → AreDyingIn heap time ds
below_are heap held time i ds are le all = record {
  rising = are.rising;
  exact = λ o t. (
    λ c. let r = are.each o t c in ((all.exact o).0 r.0, r.1, r.2),
    λ (h, at, small).
        subst (λ (v : ℕ). Contains ds (o, v)) at
        (each_at (λ z. time z < NOW → Contains ds (z, time z)) held i le are.all o ((all.exact o).1 h) (omega arith)),
  );
}
