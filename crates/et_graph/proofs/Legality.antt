-- A test by computation that steps and ties are legal, for such as are written out; and what is legal after a flush.
use Rattle.std.proofs.Common.{◌≡◌, ℕ, zero, suc, ◌+◌, ◌<◌, ◌==◌, ◌&&◌, ◌||◌, nat_lt, nat_le, Bool, true, not, List, [], ◌∷◌, ◌++◌, filter, length, get_or, Contains, refl, subst, inl, inr, arith}
use Rattle.std.specs.List.{list_any, list_all}
use Rattle.std.proofs.lemmas.List.Elements.{Contains-append_left, Contains-append_right, Contains-append_cases}
use Rattle.std.proofs.lemmas.Bool.{and_parts, or_cases, eqb-true, leb-true, ltb-true, not-true, both_ways}
use Rattle.et_graph.specs.Graph.{Graph, Leads, IsReached}
use Rattle.et_graph.specs.Steps.{Step, IsKnown, IsDraft, IsLegalStep, IsFlush}
use Rattle.et_graph.specs.Edit.{Edit, has_pair, step_of}
use Rattle.et_graph.specs.History.{Turn, graph_after}
use Rattle.et_graph.specs.Taken.{with_step, AreLegalSteps}
use Rattle.et_graph.specs.Times.{ArePairsAmong}
use Rattle.et_base.proofs.Lists.{Contains-none, Contains-here, Contains-there, Contains-cons, has_contains, contains_has, filter_kept, filter_keeps}
use Rattle.et_graph.proofs.Lists.{has_pair_contains}
use Rattle.et_graph.proofs.Walks.{leads_first, leads_on, leads_more, walk_more}
use Rattle.et_graph.proofs.Sound.{reached_flush}

abbrev pub leads_test : List (ℕ × ℕ) → ℕ → ℕ → Bool
leads_test [] u o = u == o
leads_test (p ∷ ps) u o = leads_test ps u o || (leads_test ps u p.0 && leads_test ps p.1 o)

test_leads : (ps : List (ℕ × ℕ)) (u o : ℕ) → leads_test ps u o ≡ true → Leads ps u o
test_leads [] u o t = ([], eqb-true u o t)
test_leads (p ∷ ps) u o t =
    elim (or_cases (leads_test ps u o) (leads_test ps u p.0 && leads_test ps p.1 o) t) [
      | inl h ↦ leads_more p ps u o (test_leads ps u o h)
      | inr h ↦
          let both = and_parts (leads_test ps u p.0) (leads_test ps p.1 o) h in
          leads_on (p ∷ ps) u p.0 o (leads_more p ps u p.0 (test_leads ps u p.0 both.0))
          (leads_first (p ∷ ps) p.0 p.1 o (Contains-here p ps) (leads_more p ps p.1 o (test_leads ps p.1 o both.1)))
    ]

abbrev pub reached_test : Graph → ℕ → Bool
reached_test g o = list_any (λ r. leads_test g.pairs r o) g.roots

any_is : {X : Type 0} (t : X → Bool) (xs : List X) → list_any t xs ≡ true → (x : X) × Contains xs x × (t x ≡ true)
any_is t [] h = absurd (cc)
any_is {X} t (x ∷ xs) h =
    elim (or_cases (t x) (list_any t xs) h) [
      | inl e ↦ (x, Contains-here x xs, e)
      | inr r ↦ let found = any_is t xs r in (found.0, Contains-there x xs found.0 found.1, found.2)
    ]

test_reached : (g : Graph) (o : ℕ) → reached_test g o ≡ true → IsReached g o
test_reached g o h =
    let found = any_is (λ r. leads_test g.pairs r o) g.roots h in
    (found.0, found.1, test_leads g.pairs found.0 o found.2)

all_at : {X : Type 0} (t : X → Bool) (xs : List X) (x : X) → list_all t xs ≡ true → Contains xs x → t x ≡ true
all_at t [] x h c = absurd (Contains-none x c)
all_at {X} t (y ∷ ys) x h c =
    let both = and_parts (t y) (list_all t ys) h in
    elim (Contains-cons y ys x c) [
      | inl e ↦ subst (λ (z : X). t z ≡ true) e both.0
      | inr d ↦ all_at t ys x both.1 d
    ]

abbrev pub known_test : Graph → Step → ℕ → Bool
known_test g s o = reached_test g o || list_any (λ x. x == o) s.fresh

test_known : (g : Graph) (s : Step) (o : ℕ) → known_test g s o ≡ true → IsKnown g s o
test_known g s o h =
    elim (or_cases (reached_test g o) (list_any (λ x. x == o) s.fresh) h) [
      | inl r ↦ inl (test_reached g o r)
      | inr c ↦ inr (has_contains s.fresh o c)
    ]

abbrev pub next_test : ℕ → List ℕ → Bool
next_test n [] = true
next_test n (x ∷ xs) = (x == n) && next_test (n + 1) xs

test_next : (n : ℕ) (xs : List ℕ) → next_test n xs ≡ true → (k : ℕ) → k < length xs → get_or xs k 0 ≡ n + k
test_next n [] h k lt = absurd (omega arith)
test_next n (x ∷ xs) h zero lt = let both = and_parts (x == n) (next_test (n + 1) xs) h in omega (arith, eqb-true x n both.0)
test_next n (x ∷ xs) h (suc k) lt =
    let both = and_parts (x == n) (next_test (n + 1) xs) h in
    omega (arith, test_next (n + 1) xs both.1 k (omega arith))

abbrev pub made_test : ℕ → ℕ → Bool
made_test n o = nat_lt 0 o && nat_le o n

-- each rule of a legal step, as a test
abbrev pub fresh_test : Graph → Step → Bool
fresh_test g s = (s.after.made == g.made + length s.fresh) && (next_test (g.made + 1) s.fresh && list_all (λ o. reached_test s.after o) s.fresh)

abbrev pub roots_test : Graph → Step → Bool
roots_test g s =
    list_all (λ r. list_any (λ x. x == r) s.after.roots || list_any (λ x. x == r) s.lost) g.roots
    && list_all (λ r. made_test s.after.made r && not (list_any (λ x. x == r) g.gone)) s.after.roots

abbrev pub pairs_test : Graph → Step → Bool
pairs_test g s =
    list_all (λ p. has_pair s.after.pairs p || (list_any (λ x. x == p.1) s.lost && reached_test g p.0)) g.pairs
    && list_all (λ p. has_pair g.pairs p || (known_test g s p.0 && known_test g s p.1)) s.after.pairs

abbrev pub step_test : Graph → Step → Bool
step_test g s = fresh_test g s && (roots_test g s && (pairs_test g s && list_all (λ o. known_test g s o) s.lost))

-- the rules that hold where the test is passed
record IsTested (g : Graph) (s : Step) : Type 0 where
  made : s.after.made ≡ g.made + length s.fresh
  fresh_next : next_test (g.made + 1) s.fresh ≡ true
  fresh_reached : list_all (λ o. reached_test s.after o) s.fresh ≡ true
  roots_lost : list_all (λ r. list_any (λ x. x == r) s.after.roots || list_any (λ x. x == r) s.lost) g.roots ≡ true
  roots_held : list_all (λ r. made_test s.after.made r && not (list_any (λ x. x == r) g.gone)) s.after.roots ≡ true
  pairs_lost : list_all (λ p. has_pair s.after.pairs p || (list_any (λ x. x == p.1) s.lost && reached_test g p.0)) g.pairs ≡ true
  pairs_known : list_all (λ p. has_pair g.pairs p || (known_test g s p.0 && known_test g s p.1)) s.after.pairs ≡ true
  lost_known : list_all (λ o. known_test g s o) s.lost ≡ true

is_tested : (g : Graph) (s : Step) → step_test g s ≡ true → IsTested g s
is_tested g s t =
    let a = and_parts (fresh_test g s) (roots_test g s && (pairs_test g s && list_all (λ o. known_test g s o) s.lost)) t in
    let b = and_parts (roots_test g s) (pairs_test g s && list_all (λ o. known_test g s o) s.lost) a.1 in
    let c = and_parts (pairs_test g s) (list_all (λ o. known_test g s o) s.lost) b.1 in
    let f = and_parts (s.after.made == g.made + length s.fresh) (next_test (g.made + 1) s.fresh && list_all (λ o. reached_test s.after o) s.fresh) a.0 in
    let n = and_parts (next_test (g.made + 1) s.fresh) (list_all (λ o. reached_test s.after o) s.fresh) f.1 in
    let r = and_parts (list_all (λ r. list_any (λ x. x == r) s.after.roots || list_any (λ x. x == r) s.lost) g.roots) (list_all (λ r. made_test s.after.made r && not (list_any (λ x. x == r) g.gone)) s.after.roots) b.0 in
    let p = and_parts (list_all (λ p. has_pair s.after.pairs p || (list_any (λ x. x == p.1) s.lost && reached_test g p.0)) g.pairs) (list_all (λ p. has_pair g.pairs p || (known_test g s p.0 && known_test g s p.1)) s.after.pairs) c.0 in
    record {
      made = eqb-true s.after.made (g.made + length s.fresh) f.0;
      fresh_next = n.0;
      fresh_reached = n.1;
      roots_lost = r.0;
      roots_held = r.1;
      pairs_lost = p.0;
      pairs_known = p.1;
      lost_known = c.1;
    }

removed_at : (g : Graph) (s : Step) → IsTested g s → (u x : ℕ) → Contains g.pairs (u, x) → ¬ Contains s.after.pairs (u, x) → Contains s.lost x × IsReached g u
removed_at g s t u x c out =
    elim (or_cases (has_pair s.after.pairs (u, x)) (list_any (λ y. y == x) s.lost && reached_test g u) (all_at (λ p. has_pair s.after.pairs p || (list_any (λ y. y == p.1) s.lost && reached_test g p.0)) g.pairs (u, x) t.pairs_lost c)) [
      | inl h ↦ absurd (out (has_pair_contains s.after.pairs (u, x) h))
      | inr h ↦
          let both = and_parts (list_any (λ y. y == x) s.lost) (reached_test g u) h in
          (has_contains s.lost x both.0, test_reached g u both.1)
    ]

tested_draft : (g : Graph) (s : Step) → s.after.gone ≡ g.gone → IsTested g s → IsDraft g s
tested_draft g s gone t = record {
  made = t.made;
  gone = gone;
  fresh_next = test_next (g.made + 1) s.fresh t.fresh_next;
  roots_lost = λ r c out.
      elim (or_cases (list_any (λ x. x == r) s.after.roots) (list_any (λ x. x == r) s.lost) (all_at (λ q. list_any (λ x. x == q) s.after.roots || list_any (λ x. x == q) s.lost) g.roots r t.roots_lost c)) [
        | inl h ↦ absurd (out (has_contains s.after.roots r h))
        | inr h ↦ has_contains s.lost r h
      ];
  pairs_lost = λ u x h. (removed_at g s t u x h.0 h.1).0;
  pairs_from_reached = λ u x h. (removed_at g s t u x h.0 h.1).1;
  pairs_known = λ u x h.
      elim (or_cases (has_pair g.pairs (u, x)) (known_test g s u && known_test g s x) (all_at (λ p. has_pair g.pairs p || (known_test g s p.0 && known_test g s p.1)) s.after.pairs (u, x) t.pairs_known h.0)) [
        | inl c ↦ absurd (h.1 (has_pair_contains g.pairs (u, x) c))
        | inr k ↦ let both = and_parts (known_test g s u) (known_test g s x) k in (test_known g s u both.0, test_known g s x both.1)
      ];
  lost_known = λ o c. test_known g s o (all_at (λ o'. known_test g s o') s.lost o t.lost_known c);
  roots_held = λ r c.
      let both = and_parts (made_test s.after.made r) (not (list_any (λ x. x == r) g.gone)) (all_at (λ q. made_test s.after.made q && not (list_any (λ x. x == q) g.gone)) s.after.roots r t.roots_held c) in
      let made = and_parts (nat_lt 0 r) (nat_le r s.after.made) both.0 in (
        (ltb-true 0 r made.0, leb-true r s.after.made made.1),
        λ gone. both_ways (list_any (λ x. x == r) g.gone) (not-true (list_any (λ x. x == r) g.gone) both.1) (contains_has g.gone r gone),
      );
}

pub tested_legal : (g : Graph) (e : Edit) → step_test g (step_of g e) ≡ true → IsLegalStep g (step_of g e)
tested_legal g e h =
    let s : Step = step_of g e in
    let t : IsTested g s = is_tested g s h in
    record {
      draft = tested_draft g s refl t;
      fresh_reached = λ o c. test_reached s.after o (all_at (λ o'. reached_test s.after o') s.fresh o t.fresh_reached c);
    }

abbrev pub steps_test : Graph → List Edit → Bool
steps_test g [] = true
steps_test g (e ∷ edits) = step_test g (step_of g e) && steps_test (step_of g e).after edits

pub tested_steps : (turns : List Turn) (edits : List Edit) → steps_test (graph_after turns) edits ≡ true → AreLegalSteps turns edits
tested_steps turns [] h = tt
tested_steps turns (e ∷ edits) h =
    let both = and_parts (step_test (graph_after turns) (step_of (graph_after turns) e)) (steps_test (step_of (graph_after turns) e).after edits) h in
    (tested_legal (graph_after turns) e both.0, tested_steps (with_step turns e) edits both.1)

abbrev pub tie_test : Graph → List (ℕ × ℕ) → Bool
tie_test g tied = list_all (λ p. reached_test g p.0 && reached_test g p.1) tied

pub tested_tie : (g : Graph) (tied : List (ℕ × ℕ)) → tie_test g tied ≡ true → ArePairsAmong (IsReached g) tied
tested_tie g tied h = λ u x c.
    let both = and_parts (reached_test g u) (reached_test g x) (all_at (λ p. reached_test g p.0 && reached_test g p.1) tied (u, x) h c) in
    (test_reached g u both.0, test_reached g x both.1)

-- A step that was legal before a flush is legal after it, where it makes nothing a root that the flush reports.
module _ (g h : Graph) (dead : List ℕ) (is : IsFlush g dead h) (e : Edit) where
  same_pairs : (ps qs : List (ℕ × ℕ)) → ((u x : ℕ) → Contains ps (u, x) → Contains qs (u, x)) → (u x : ℕ)
      → Contains (filter (λ p. not (has_pair e.cut p)) ps ++ e.tied) (u, x) → Contains (filter (λ p. not (has_pair e.cut p)) qs ++ e.tied) (u, x)
  same_pairs ps qs more u x c =
      elim (Contains-append_cases (filter (λ p. not (has_pair e.cut p)) ps) e.tied (u, x) c) [
        | inl f ↦
            let k = filter_kept (λ p. not (has_pair e.cut p)) ps (u, x) f in
            Contains-append_left (filter (λ p. not (has_pair e.cut p)) qs) e.tied (u, x) (filter_keeps (λ p. not (has_pair e.cut p)) qs (u, x) (more u x k.0) k.1)
        | inr t ↦ Contains-append_right (filter (λ p. not (has_pair e.cut p)) qs) e.tied (u, x) t
      ]

  pair_before : (u x : ℕ) → Contains (step_of h e).after.pairs (u, x) → Contains (step_of g e).after.pairs (u, x)
  pair_before = same_pairs h.pairs g.pairs (λ u x c. (is.pairs u x).0 c)

  pair_flushed : (u x : ℕ) → Contains (step_of g e).after.pairs (u, x) → Contains (step_of h e).after.pairs (u, x)
  pair_flushed = same_pairs g.pairs h.pairs (λ u x c. (is.pairs u x).1 c)

  known_flushed : (o : ℕ) → IsKnown g (step_of g e) o → IsKnown h (step_of h e) o
  known_flushed o (inl r) = inl (reached_flush g h dead is o r)
  known_flushed o (inr c) = inr c

  draft_flushed : IsDraft g (step_of g e) → ((r : ℕ) → Contains e.roots r → ¬ Contains dead r) → IsDraft h (step_of h e)
  draft_flushed draft held = record {
    made = refl;
    fresh_next = λ k lt. omega (arith, draft.fresh_next k lt, is.made);
    roots_lost = λ r c out. draft.roots_lost r (subst (λ (rs : List ℕ). Contains rs r) is.roots c) out;
    pairs_lost = λ u x r. draft.pairs_lost u x ((is.pairs u x).0 r.0, λ c. r.1 (pair_flushed u x c));
    pairs_from_reached = λ u x r. reached_flush g h dead is u (draft.pairs_from_reached u x ((is.pairs u x).0 r.0, λ c. r.1 (pair_flushed u x c)));
    pairs_known = λ u x a.
        let both = draft.pairs_known u x (pair_before u x a.0, λ c. a.1 ((is.pairs u x).1 c)) in
        (known_flushed u both.0, known_flushed x both.1);
    lost_known = λ o c. known_flushed o (draft.lost_known o c);
    roots_held = λ r c.
        let both = draft.roots_held r c in
        ((both.0.0, omega (arith, both.0.1, is.made)), λ gone. elim ((is.gone r).0 gone) [ inl d ↦ both.1 d | inr d ↦ held r c d ]);
    gone = refl;
  }

  pub legal_flushed : IsLegalStep g (step_of g e) → ((r : ℕ) → Contains e.roots r → ¬ Contains dead r) → IsLegalStep h (step_of h e)
  legal_flushed legal held = record {
    draft = draft_flushed legal.draft held;
    fresh_reached = λ o c.
        let r = legal.fresh_reached o c in
        (r.0, r.1, (r.2.0, walk_more (step_of g e).after.pairs (step_of h e).after.pairs pair_flushed r.0 r.2.0 o r.2.1));
  }

-- a step by its parts: its new and its lost objects, the roots after it, and the pairs that it takes away and puts in
abbrev pub row : List ℕ → List ℕ → List ℕ → List (ℕ × ℕ) → List (ℕ × ℕ) → Edit
row fresh lost roots cut tied = record { fresh = fresh; lost = lost; roots = roots; cut = cut; tied = tied }
