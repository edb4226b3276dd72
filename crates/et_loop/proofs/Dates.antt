-- The list of deaths, as a function of the times, is the list that the stamps show.
use Rattle.std.proofs.Common.{◌≡◌, ℕ, zero, suc, ◌+◌, ◌<◌, ◌≤◌, ◌||◌, Bool, true, false, if◌then◌else◌, List, [], ◌∷◌, ◌++◌, map, get_or, length, Contains, refl, sym, ◌∙◌, ap, subst, inl, inr, arith}
use Rattle.std.specs.List.Sorted.{IsStrictlyIncreasing}
use Rattle.std.proofs.lemmas.Bool.{cases_eq, or_parts}
use Rattle.std.proofs.lemmas.List.{map-append}
use Rattle.std.proofs.lemmas.Grind.{common_steps, get_or_default_zero}
use Rattle.std.proofs.lemmas.List.Elements.{Contains-append_left, Contains-append_right, Contains-append_cases}
use Rattle.et_graph.specs.Graph.{Graph, IsDead, AreDead, Decides}
use Rattle.et_base.proofs.Lists.{Contains-none, Contains-here, Contains-cons, has_contains, contains_has, rising_push}
use Rattle.et_graph.proofs.Walks.{is_reached, is_reached_decides}
use Rattle.et_graph.proofs.Deaths.{map_first, first_map}
use Rattle.et_state.specs.History.{deaths_to, is_gone}
use Rattle.et_graph.specs.Listed.{AreListed, IsGreatest}

-- one more, or not
more_in : (b : Bool) (p q : ℕ × ℕ) → Contains (if b then [] else p ∷ []) q → (b ≡ false) × (p ≡ q)
more_in true p q c = absurd (Contains-none q c)
more_in false p q c = elim (Contains-cons p [] q c) [ inl e ↦ (refl, e) | inr d ↦ absurd (Contains-none q d) ]

in_more : (b : Bool) (p : ℕ × ℕ) → b ≡ false → Contains (if b then [] else p ∷ []) p
in_more true p e = absurd (let h : true ≡ false = e in cc)
in_more false p e = Contains-here p []

or_false : (a b : Bool) → a ≡ false → b ≡ false → (a || b) ≡ false
or_false true b e f = absurd (let h : true ≡ false = e in cc)
or_false false b e f = f

-- what the list of deaths has
pub record IsIn (here gone : ℕ → Bool) (time : ℕ → ℕ) (n o t : ℕ) : Type 0 where
  pub above : 0 < o
  pub within : o ≤ n
  pub out : here o ≡ false
  pub held : gone o ≡ false
  pub at : t ≡ time o

module _ (here gone : ℕ → Bool) (time : ℕ → ℕ) where
  pub deaths_in : (n o t : ℕ) → Contains (deaths_to here gone time n) (o, t) → IsIn here gone time n o t
  deaths_in zero o t c = absurd (Contains-none (o, t) c)
  deaths_in (suc n) o t c =
      elim (Contains-append_cases (deaths_to here gone time n) _ (o, t) c) [
        | inl d ↦ let i = deaths_in n o t d in record { above = i.above; within = omega (arith, i.within); out = i.out; held = i.held; at = i.at }
        | inr d ↦
            let m = more_in (here (suc n) || gone (suc n)) (suc n, time (suc n)) (o, t) d in
            let first : suc n ≡ o = ap (λ (p : ℕ × ℕ). p.0) m.1 in
            let second : time (suc n) ≡ t = ap (λ (p : ℕ × ℕ). p.1) m.1 in
            let both = or_parts (here (suc n)) (gone (suc n)) m.0 in
            record {
              above = omega (arith, first);
              within = omega (arith, first);
              out = subst (λ x. here x ≡ false) first both.0;
              held = subst (λ x. gone x ≡ false) first both.1;
              at = sym second ∙ ap time first;
            }
      ]

  pub in_deaths : (n o t : ℕ) → IsIn here gone time n o t → Contains (deaths_to here gone time n) (o, t)
  in_deaths zero o t i = absurd (let a = i.above in let b = i.within in omega arith)
  in_deaths (suc n) o t i =
      elim (cases_eq o (suc n)) [
        | inl e ↦
            let c = in_more (here (suc n) || gone (suc n)) (suc n, time (suc n)) (or_false (here (suc n)) (gone (suc n)) (subst (λ x. here x ≡ false) e i.out) (subst (λ x. gone x ≡ false) e i.held)) in
            let at : time (suc n) ≡ t = sym (i.at ∙ ap time e) in
            Contains-append_right (deaths_to here gone time n) _ (o, t)
            (subst (λ (x : ℕ). Contains {X = ℕ × ℕ} (if here (suc n) || gone (suc n) then [] else (suc n, time (suc n)) ∷ []) (x, t)) (sym e)
            (subst (λ (y : ℕ). Contains {X = ℕ × ℕ} (if here (suc n) || gone (suc n) then [] else (suc n, time (suc n)) ∷ []) (suc n, y)) at c))
        | inr ne ↦ Contains-append_left (deaths_to here gone time n) _ (o, t) (in_deaths n o t (record { above = i.above; within = (let b = i.within in omega arith); out = i.out; held = i.held; at = i.at }))
      ]

  below_end : (n k : ℕ) → k < length (map (λ (d : ℕ × ℕ). d.0) (deaths_to here gone time n)) → get_or (map (λ (d : ℕ × ℕ). d.0) (deaths_to here gone time n)) k 0 < suc n
  below_end n k lt =
      let os : List ℕ = map (λ (d : ℕ × ℕ). d.0) (deaths_to here gone time n) in
      let f = first_map (deaths_to here gone time n) (get_or os k 0) (k, lt, get_or_default_zero os k (get_or os k 0) lt) in
      let i = deaths_in n _ f.0 f.1 in omega (arith, i.within)

  rising_more : (b : Bool) (ps : List (ℕ × ℕ)) (o t : ℕ) → IsStrictlyIncreasing (map (λ (d : ℕ × ℕ). d.0) ps) → ((k : ℕ) → k < length (map (λ (d : ℕ × ℕ). d.0) ps) → get_or (map (λ (d : ℕ × ℕ). d.0) ps) k 0 < o) → IsStrictlyIncreasing (map (λ (d : ℕ × ℕ). d.0) (ps ++ (if b then [] else (o, t) ∷ [])))
  rising_more true ps o t rise below = subst (λ (xs : List ℕ). IsStrictlyIncreasing xs) (sym (map-append (λ (d : ℕ × ℕ). d.0) ps [] ∙ (search (common_steps)))) rise
  rising_more false ps o t rise below = subst (λ (xs : List ℕ). IsStrictlyIncreasing xs) (sym (map-append (λ (d : ℕ × ℕ). d.0) ps ((o, t) ∷ []))) (rising_push (map (λ (d : ℕ × ℕ). d.0) ps) o rise below)

  pub deaths_rise : (n : ℕ) → IsStrictlyIncreasing (map (λ (d : ℕ × ℕ). d.0) (deaths_to here gone time n))
  deaths_rise zero = λ k lt. absurd (omega arith)
  deaths_rise (suc n) = rising_more (here (suc n) || gone (suc n)) (deaths_to here gone time n) (suc n) (time (suc n)) (deaths_rise n) (below_end n)

-- AT A GRAPH

not_true : (b : Bool) → (b ≡ true → ⊥) → b ≡ false
not_true true h = absurd (h refl)
not_true false h = refl

pub true_false : (b : Bool) → b ≡ true → b ≡ false → ⊥
true_false b e f = let h : true ≡ false = sym e ∙ f in cc

module _ (reached : Graph → ℕ → Bool) (decides : Decides reached) (g : Graph) (time : ℕ → ℕ) where
  abbrev pub dated : List (ℕ × ℕ)
  dated = deaths_to (reached g) (is_gone g) time g.made

  pub dated_dead : (o t : ℕ) → Contains dated (o, t) → IsDead g o × (t ≡ time o)
  dated_dead o t c =
      let i = deaths_in (reached g) (is_gone g) time g.made o t c in (
        (
          (i.above, i.within),
          (λ r. true_false (reached g o) ((decides g o).1 r) i.out),
          (λ gone. true_false (is_gone g o) (contains_has g.gone o gone) i.held),
        ),
        i.at,
      )

  pub dead_dated : (o : ℕ) → IsDead g o → Contains dated (o, time o)
  dead_dated o d = in_deaths (reached g) (is_gone g) time g.made o (time o) (record {
    above = d.0.0;
    within = d.0.1;
    out = not_true (reached g o) (λ t. d.1 ((decides g o).0 t));
    held = not_true (is_gone g o) (λ t. d.2 (has_contains g.gone o t));
    at = refl;
  })

  -- where the times of the dead are their greatest stamps
  pub dated_listed : (stamps : ℕ → ℕ) → ((o : ℕ) → IsDead g o → IsGreatest g stamps o (time o)) → AreListed g stamps dated
  dated_listed stamps dates = record {
    rising = deaths_rise (reached g) (is_gone g) time g.made;
    exact = λ o t. (
      (λ c. let d = dated_dead o t c in (d.0, subst (λ x. IsGreatest g stamps o x) (sym d.1) (dates o d.0))),
      (λ h.
          let a = dates o h.0 in
          let same : time o ≡ t = omega (arith, a.source.3, h.1.source.3, a.greatest h.1.source.0 h.1.source.1 h.1.source.2, h.1.greatest a.source.0 a.source.1 a.source.2) in
          subst (λ (x : ℕ). Contains dated (o, x)) same (dead_dated o h.0)),
    );
  }

-- the dead objects in rising order
pub some_dead : (g : Graph) → (reports : List ℕ) × AreDead g reports
some_dead g =
    let ds = dated is_reached is_reached_decides g (λ _. 0) in (
      map (λ (d : ℕ × ℕ). d.0) ds,
      record {
        rising = deaths_rise (is_reached g) (is_gone g) (λ _. 0) g.made;
        exact = λ o. (
          (λ c. let f = first_map ds o c in (dated_dead is_reached is_reached_decides g (λ _. 0) o f.0 f.1).0),
          (λ d. map_first ds o 0 (dead_dated is_reached is_reached_decides g (λ _. 0) o d)),
        );
      },
    )
