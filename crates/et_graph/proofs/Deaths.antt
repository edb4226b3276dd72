-- The deaths of a flush: there is one list of them, its objects are the dead ones, and the stamps show it.
use Rattle.std.proofs.Common.{◌≡◌, ℕ, suc, ◌+◌, ◌<◌, ◌↔◌, List, [], ◌∷◌, get_or, map, Contains, refl, sym, ap, ◌∙◌, subst, inl, inr, arith}
use Rattle.std.specs.List.Sorted.{IsStrictlyIncreasing}
use Rattle.et_graph.specs.Graph.{IsDead, AreDead}
use Rattle.et_graph.specs.History.{Turn, graph_after, IsHistory, IsLastStep, IsGreatestStamp, StampsTell, WasReported, AreDeaths, AreStamped}
use Rattle.et_graph.specs.History.Turn.{Took, Tied, Flushed}
use Rattle.et_base.proofs.Lists.{Contains-none, Contains-here, Contains-there, Contains-cons}
use Rattle.et_graph.proofs.Ties.{tie_gone, gone_tie}
use Rattle.et_graph.proofs.StampLemmas.{history_told, stamps_told}

-- The first parts of pairs in a list.
pub map_first : (ps : List (ℕ × ℕ)) (o e : ℕ) → Contains ps (o, e) → Contains (map (λ (d : ℕ × ℕ). d.0) ps) o
map_first [] o e c = absurd (Contains-none (o, e) c)
map_first (p ∷ ps) o e c =
    elim (Contains-cons p ps (o, e) c) [
      | inl h ↦ subst (λ (z : ℕ). Contains (p.0 ∷ map (λ (d : ℕ × ℕ). d.0) ps) z) (ap (λ (q : ℕ × ℕ). q.0) h) (Contains-here p.0 (map (λ (d : ℕ × ℕ). d.0) ps))
      | inr d ↦ Contains-there p.0 (map (λ (d : ℕ × ℕ). d.0) ps) o (map_first ps o e d)
    ]

pub first_map : (ps : List (ℕ × ℕ)) (o : ℕ) → Contains (map (λ (d : ℕ × ℕ). d.0) ps) o → (e : ℕ) × Contains ps (o, e)
first_map [] o c = absurd (Contains-none o c)
first_map (p ∷ ps) o c =
    elim (Contains-cons p.0 (map (λ (d : ℕ × ℕ). d.0) ps) o c) [
      | inl h ↦ (p.1, subst (λ (z : ℕ). Contains (p ∷ ps) (z, p.1)) h (Contains-here p ps))
      | inr d ↦ let r = first_map ps o d in (r.0, Contains-there p ps (o, r.0) r.1)
    ]

-- the objects of the deaths are the dead
pub deaths_dead : (turns : List Turn) (deaths : List (ℕ × ℕ)) → IsHistory turns → AreDeaths turns deaths → AreDead (graph_after turns) (map (λ (d : ℕ × ℕ). d.0) deaths)
deaths_dead turns deaths history are = record {
  rising = are.rising;
  exact = λ o. (
    (λ c. let r = first_map deaths o c in ((are.exact o r.0).0 r.1).0),
    (λ dead. let last = (stamps_told turns (history_told turns history)).last o dead.0 in map_first deaths o last.0 ((are.exact o last.0).1 (dead, last.1))),
  );
}

-- Pairs whose first parts rise.
abbrev pub firsts : List (ℕ × ℕ) → List ℕ
firsts ps = map (λ (d : ℕ × ℕ). d.0) ps

rising_tail : (x : ℕ) (xs : List ℕ) → IsStrictlyIncreasing (x ∷ xs) → IsStrictlyIncreasing xs
rising_tail x xs rise k lt =
    let e : suc k + 1 ≡ suc (k + 1) = omega arith in
    let h : get_or (x ∷ xs) (suc k) 0 < get_or (x ∷ xs) (suc k + 1) 0 = rise (suc k) (omega arith) in
    rw e at h

rising_head : (p : ℕ × ℕ) (ps : List (ℕ × ℕ)) (q : ℕ × ℕ) → IsStrictlyIncreasing (firsts (p ∷ ps)) → Contains ps q → p.0 < q.0
rising_head p [] q rise c = absurd (Contains-none q c)
rising_head p (r ∷ ps) q rise c =
    let first : p.0 < r.0 = rise 0 (omega arith) in
    elim (Contains-cons r ps q c) [
      | inl e ↦ omega (arith, first, ap (λ (d : ℕ × ℕ). d.0) e)
      | inr d ↦ omega (arith, first, rising_head r ps q (rising_tail p.0 (firsts (r ∷ ps)) rise) d)
    ]

abbrev pub AreSame : List (ℕ × ℕ) → List (ℕ × ℕ) → Type 0
AreSame a b = (p : ℕ × ℕ) → Contains a p ↔ Contains b p

same_first : (p q : ℕ × ℕ) (ps qs : List (ℕ × ℕ)) → IsStrictlyIncreasing (firsts (p ∷ ps)) → IsStrictlyIncreasing (firsts (q ∷ qs)) → AreSame (p ∷ ps) (q ∷ qs) → p ≡ q
same_first p q ps qs rp rq same =
    elim (Contains-cons q qs p ((same p).0 (Contains-here p ps))) [
      | inl e ↦ sym e
      | inr c ↦ elim (Contains-cons p ps q ((same q).1 (Contains-here q qs))) [
        | inl e ↦ e
        | inr d ↦ absurd (omega (arith, rising_head q qs p rq c, rising_head p ps q rp d))
      ]
    ]

same_rest : (p q : ℕ × ℕ) (ps qs : List (ℕ × ℕ)) → p ≡ q → IsStrictlyIncreasing (firsts (p ∷ ps)) → ((r : ℕ × ℕ) → Contains (p ∷ ps) r → Contains (q ∷ qs) r) → (r : ℕ × ℕ) → Contains ps r → Contains qs r
same_rest p q ps qs e rise into r c =
    elim (Contains-cons q qs r (into r (Contains-there p ps r c))) [
      | inr d ↦ d
      | inl f ↦ absurd (omega (arith, rising_head p ps r rise c, ap (λ (d : ℕ × ℕ). d.0) (e ∙ f)))
    ]

pub rising_one : (a b : List (ℕ × ℕ)) → IsStrictlyIncreasing (firsts a) → IsStrictlyIncreasing (firsts b) → AreSame a b → a ≡ b
rising_one [] [] ra rb same = refl
rising_one [] (q ∷ qs) ra rb same = absurd (Contains-none q ((same q).1 (Contains-here q qs)))
rising_one (p ∷ ps) [] ra rb same = absurd (Contains-none p ((same p).0 (Contains-here p ps)))
rising_one (p ∷ ps) (q ∷ qs) ra rb same =
    let e : p ≡ q = same_first p q ps qs ra rb same in
    let rest : ps ≡ qs = rising_one ps qs (rising_tail p.0 (firsts ps) ra) (rising_tail q.0 (firsts qs) rb)
    (λ r. (same_rest p q ps qs e ra (λ s c. (same s).0 c) r, same_rest q p qs ps (sym e) rb (λ s c. (same s).1 c) r)) in
    ap (λ (r : ℕ × ℕ). r ∷ ps) e ∙ ap (λ (rs : List (ℕ × ℕ)). q ∷ rs) rest

pub deaths_one : (turns : List Turn) (a b : List (ℕ × ℕ)) → AreDeaths turns a → AreDeaths turns b → a ≡ b
deaths_one turns a b da db =
    rising_one a b da.rising db.rising (λ p. ((λ c. (db.exact p.0 p.1).1 ((da.exact p.0 p.1).0 c)), (λ c. (da.exact p.0 p.1).1 ((db.exact p.0 p.1).0 c))))

-- the greatest stamp of a dead object is its last step
stamped_last : (turns : List Turn) (o e : ℕ) → IsHistory turns → IsDead (graph_after turns) o → IsGreatestStamp turns (λ u. ¬ Contains (graph_after turns).gone u) o e → IsLastStep turns o e
stamped_last turns o e history dead greatest =
    let tell : StampsTell turns = stamps_told turns (history_told turns history) in
    let last = tell.last o dead.0 in
    let g = tell.held o last.0 dead last.1 in
    let same : last.0 ≡ e =
    omega (arith, g.source.3, greatest.source.3, g.greatest greatest.source.0 greatest.source.1 greatest.source.2, greatest.greatest g.source.0 g.source.1 g.source.2) in
    subst (λ (t : ℕ). IsLastStep turns o t) same last.1

pub stamped_deaths : (turns : List Turn) (deaths : List (ℕ × ℕ)) → IsHistory turns → AreStamped turns deaths → AreDeaths turns deaths
stamped_deaths turns deaths history are = record {
  rising = are.rising;
  exact = λ o e. (
    (λ c. let h = (are.exact o e).0 c in (h.0, stamped_last turns o e history h.0 h.1)),
    (λ h. (are.exact o e).1 (h.0, (stamps_told turns (history_told turns history)).held o e h.0 h.1)),
  );
}

pub gone_reported : (turns : List Turn) → IsHistory turns → (o : ℕ) → Contains (graph_after turns).gone o ↔ WasReported turns o
gone_reported [] h o = ((λ c. Contains-none o c), (λ none. absurd none))
gone_reported (Took s ∷ turns) h o =
    let before = gone_reported turns h.0 o in (
      (λ c. before.0 (subst (λ (os : List ℕ). Contains os o) h.1.draft.gone c)),
      (λ w. subst (λ (os : List ℕ). Contains os o) (sym h.1.draft.gone) (before.1 w)),
    )
gone_reported (Tied after ∷ turns) h o =
    let before = gone_reported turns h.0 o in (
      (λ c. before.0 (tie_gone (graph_after turns) after h.1 o c)),
      (λ w. gone_tie (graph_after turns) after h.1 o (before.1 w)),
    )
gone_reported (Flushed after reports ∷ turns) h o =
    let before = gone_reported turns h.0 o in (
      (λ c. elim ((h.1.gone o).0 c) [ inl d ↦ inl (before.0 d) | inr d ↦ inr d ]),
      elim [ inl w ↦ (h.1.gone o).1 (inl (before.1 w)) | inr d ↦ (h.1.gone o).1 (inr d) ],
    )
