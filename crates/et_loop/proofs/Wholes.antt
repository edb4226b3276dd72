-- The graph that is kept and the whole one: what is reached, legal steps, flushes and ties.
use Rattle.std.proofs.Common.{◌≡◌, ℕ, ◌==◌, ◌↔◌, Bool, List, [], ◌∷◌, ◌++◌, filter, Contains, refl, sym, ◌∙◌, subst, inl, inr, arith}
use Rattle.std.specs.List.{list_any}
use Rattle.std.proofs.lemmas.List.Elements.{Contains-append_left, Contains-append_right, Contains-append_cases}
use Rattle.et_graph.specs.Graph.{Graph, IsWalk, LeadsTo, IsReached, IsDead, AreDead, IsSoundGraph}
use Rattle.et_graph.specs.Steps.{Step, IsKnown, IsRemoved, IsAdded, IsLegalStep, IsTie, IsFlush}
use Rattle.et_base.proofs.Lists.{has_contains, contains_has, cases_number, filter_kept, filter_keeps}
use Rattle.et_graph.proofs.Walks.{walk_more}
use Rattle.et_graph.proofs.Sound.{reached_held, fresh_range}
use Rattle.et_graph.proofs.Ties.{tied_pair}
use Rattle.et_graph.specs.Cleared.{IsCleared}
use Rattle.et_loop.specs.Kept.{IsKeptPart}

-- in the same list
there : (a b : List ℕ) (o : ℕ) → a ≡ b → Contains a o → Contains b o
there a b o e c = subst (λ (os : List ℕ). Contains os o) e c

-- a graph without pairs of gone objects is the whole one
pub kept_itself : (g : Graph) → g.gone ≡ [] → IsKeptPart g g
kept_itself g none = record {
  made = refl;
  roots = refl;
  gone = refl;
  pairs = λ u x. ((λ c. (c, λ gone. let h : Contains [] u = there g.gone [] u none gone in let lt = h.1 in absurd (omega arith))), (λ h. h.0));
}

module _ (g whole : Graph) (kept : IsKeptPart g whole) where
  leads_whole : (u o : ℕ) → LeadsTo g u o → LeadsTo whole u o
  leads_whole u o l = (l.0, walk_more g.pairs whole.pairs (λ v x c. ((kept.pairs v x).0 c).0) u l.0 o l.1)

  pub reached_whole : (o : ℕ) → IsReached g o → IsReached whole o
  reached_whole o r = (r.0, there g.roots whole.roots r.0 kept.roots r.1, leads_whole r.0 o r.2)

  module _ (sound : IsSoundGraph whole) where
    -- what is not gone leads to nothing gone, so along kept pairs alone
    walk_kept : (u : ℕ) (walk : List ℕ) (o : ℕ) → ¬ Contains whole.gone u → IsWalk whole.pairs u walk o → IsWalk g.pairs u walk o
    walk_kept u [] o held w = w
    walk_kept u (x ∷ walk) o held w = ((kept.pairs u x).1 (w.0, held), walk_kept x walk o (λ gone. held (sound.gone_before u x w.0 gone)) w.1)

    pub leads_kept : (u o : ℕ) → ¬ Contains g.gone u → LeadsTo g u o ↔ LeadsTo whole u o
    leads_kept u o held = (
      leads_whole u o,
      (λ l. (l.0, walk_kept u l.0 o (λ gone. held (there whole.gone g.gone u (sym kept.gone) gone)) l.1)),
    )

    pub reached_kept : (o : ℕ) → IsReached whole o → IsReached g o
    reached_kept o r = (r.0, there whole.roots g.roots r.0 (sym kept.roots) r.1, (r.2.0, walk_kept r.0 r.2.0 o (sound.roots_held r.0 r.1) r.2.1))

    pub dead_whole : (o : ℕ) → IsDead g o → IsDead whole o
    dead_whole o d = ((d.0.0, omega (arith, d.0.1, kept.made)), (λ r. d.1 (reached_kept o r)), (λ gone. d.2 (there whole.gone g.gone o (sym kept.gone) gone)))

    pub dead_kept : (o : ℕ) → IsDead whole o → IsDead g o
    dead_kept o d = ((d.0.0, omega (arith, d.0.1, kept.made)), (λ r. d.1 (reached_whole o r)), (λ gone. d.2 (there g.gone whole.gone o kept.gone gone)))

-- A STEP

abbrev pub gone_test : Graph → ℕ × ℕ → Bool
gone_test whole p = list_any (λ x. x == p.0) whole.gone

-- the whole graph once a step has led to h: the pairs of gone objects stay
abbrev pub whole_after : Graph → Graph → Graph
whole_after whole h = record h { pairs = h.pairs ++ filter (gone_test whole) whole.pairs }

module _ (g whole h : Graph) (fresh lost : List ℕ) (kept : IsKeptPart g whole) (sound : IsSoundGraph whole) (legal : IsLegalStep g (record { after = h; fresh = fresh; lost = lost })) where
  abbrev step : Step
  step = record { after = h; fresh = fresh; lost = lost }

  abbrev pub whole_step : Step
  whole_step = record { after = whole_after whole h; fresh = fresh; lost = lost }

  of_gone : (u x : ℕ) → Contains (filter (gone_test whole) whole.pairs) (u, x) → Contains whole.pairs (u, x) × Contains whole.gone u
  of_gone u x c = let f = filter_kept (gone_test whole) whole.pairs (u, x) c in (f.0, has_contains whole.gone u f.1)

  after_leads : (o : ℕ) → IsReached h o → IsReached (whole_after whole h) o
  after_leads o r = (r.0, r.1, (r.2.0, walk_more h.pairs (whole_after whole h).pairs (λ u x c. Contains-append_left h.pairs _ (u, x) c) r.0 r.2.0 o r.2.1))

  known : (o : ℕ) → IsKnown g step o → IsKnown whole whole_step o
  known o (inl r) = inl (reached_whole g whole kept o r)
  known o (inr c) = inr c

  -- what is known isn't gone
  not_gone : (o : ℕ) → IsKnown g step o → ¬ Contains whole.gone o
  not_gone o (inl r) = reached_held whole sound o (reached_whole g whole kept o r)
  not_gone o (inr c) = λ gone. let range = fresh_range g step legal o c in let made = sound.gone_made o gone in absurd (omega (arith, range.0, made.1, kept.made))

  -- the pairs that go and come are the same ones
  removed : (u x : ℕ) → IsRemoved whole whole_step u x → IsRemoved g step u x
  removed u x r =
      elim (cases_number whole.gone u) [
        | inl gone ↦ absurd (r.1 (Contains-append_right h.pairs _ (u, x) (filter_keeps (gone_test whole) whole.pairs (u, x) r.0 (contains_has whole.gone u gone))))
        | inr held ↦ ((kept.pairs u x).1 (r.0, held), (λ c. r.1 (Contains-append_left h.pairs _ (u, x) c)))
      ]

  added : (u x : ℕ) → IsAdded whole whole_step u x → IsAdded g step u x
  added u x a =
      elim (Contains-append_cases h.pairs _ (u, x) a.0) [
        | inl c ↦ (c, (λ d. a.1 ((kept.pairs u x).0 d).0))
        | inr c ↦ absurd (a.1 (of_gone u x c).0)
      ]

  -- a legal step over what is kept is one over all
  pub legal_whole : IsLegalStep whole whole_step
  legal_whole = record {
    draft = record {
      made = omega (arith, legal.draft.made, kept.made);
      fresh_next = λ k lt. let at = legal.draft.fresh_next k lt in omega (arith, at, kept.made);
      roots_lost = λ r c out. legal.draft.roots_lost r (there whole.roots g.roots r (sym kept.roots) c) out;
      pairs_lost = λ u x r. legal.draft.pairs_lost u x (removed u x r);
      pairs_from_reached = λ u x r. reached_whole g whole kept u (legal.draft.pairs_from_reached u x (removed u x r));
      pairs_known = λ u x a. let both = legal.draft.pairs_known u x (added u x a) in (known u both.0, known x both.1);
      lost_known = λ o c. known o (legal.draft.lost_known o c);
      roots_held = λ r c. let held = legal.draft.roots_held r c in (held.0, (λ gone. held.1 (there whole.gone g.gone r (sym kept.gone) gone)));
      gone = legal.draft.gone ∙ kept.gone;
    };
    fresh_reached = λ o c. after_leads o (legal.fresh_reached o c);
  }

  -- no pair of what is kept begins at a gone object
  begins_held : (u x : ℕ) → Contains h.pairs (u, x) → ¬ Contains whole.gone u
  begins_held u x c =
      elim (cases_number whole.gone u) [
        | inr held ↦ held
        | inl gone ↦ absurd ((not_gone u (legal.draft.pairs_known u x (c, (λ d. ((kept.pairs u x).0 d).1 gone))).0) gone)
      ]

  same_gone : h.gone ≡ whole.gone
  same_gone = legal.draft.gone ∙ kept.gone

  pub step_kept : IsKeptPart h (whole_after whole h)
  step_kept = record {
    made = refl;
    roots = refl;
    gone = refl;
    pairs = λ u x. (
      (λ c. (Contains-append_left h.pairs _ (u, x) c, (λ gone. begins_held u x c (there h.gone whole.gone u same_gone gone)))),
      (λ b. elim (Contains-append_cases h.pairs _ (u, x) b.0) [
        | inl c ↦ c
        | inr c ↦ absurd (b.1 (there whole.gone h.gone u (sym same_gone) (of_gone u x c).1))
      ]),
    );
  }

-- A FLUSH

-- the whole graph once a flush has led to h: the pairs of what it reports stay
abbrev pub whole_flushed : Graph → Graph → Graph
whole_flushed whole h = record h { pairs = whole.pairs }

module _ (g whole h : Graph) (reports : List ℕ) (kept : IsKeptPart g whole) (sound : IsSoundGraph whole) (cleared : IsCleared g h) (dead : AreDead g reports) where
  -- a flush of what is kept is one of all
  pub flush_whole : IsFlush whole reports (whole_flushed whole h)
  flush_whole = record {
    dead = record {
      rising = dead.rising;
      exact = λ o. ((λ c. dead_whole g whole kept sound o ((dead.exact o).0 c)), (λ d. (dead.exact o).1 (dead_kept g whole kept sound o d)));
    };
    made = cleared.made ∙ kept.made;
    roots = cleared.roots ∙ kept.roots;
    pairs = λ u x. ((λ c. c), (λ c. c));
    gone = λ o. (
      (λ c. elim ((cleared.gone o).0 c) [
        | inl b ↦ inl (there g.gone whole.gone o kept.gone b)
        | inr d ↦ inr ((dead.exact o).1 d)
      ]),
      elim [
        | inl b ↦ (cleared.gone o).1 (inl (there whole.gone g.gone o (sym kept.gone) b))
        | inr c ↦ (cleared.gone o).1 (inr ((dead.exact o).0 c))
      ],
    );
  }

  pub flush_kept : IsKeptPart h (whole_flushed whole h)
  flush_kept = record {
    made = refl;
    roots = refl;
    gone = refl;
    pairs = λ u x. (
      (λ c. let b = (cleared.pairs u x).0 c in (((kept.pairs u x).0 b.0).0, b.1)),
      (λ b. (cleared.pairs u x).1 ((kept.pairs u x).1 (b.0, (λ gone. b.1 ((cleared.gone u).1 (inl (there whole.gone g.gone u (sym kept.gone) gone))))), b.1)),
    );
  }

-- A TIE

-- the whole graph with the pairs of h as well
abbrev pub whole_tied : Graph → Graph → Graph
whole_tied whole h = record whole { pairs = whole.pairs ++ h.pairs }

module _ (g whole h : Graph) (kept : IsKeptPart g whole) (sound : IsSoundGraph whole) (tie : IsTie g h) where
  -- a tie of what is kept is one of all
  pub tie_whole : IsTie whole (whole_tied whole h)
  tie_whole = record {
    made = refl;
    roots = refl;
    pairs_kept = λ u x c. Contains-append_left whole.pairs h.pairs (u, x) c;
    pairs_reached = λ u x c new. elim (Contains-append_cases whole.pairs h.pairs (u, x) c) [
      | inl d ↦ absurd (new d)
      | inr d ↦
          let both = tie.pairs_reached u x d (λ old. new ((kept.pairs u x).0 old).0) in
          (reached_whole g whole kept u both.0, reached_whole g whole kept x both.1)
    ];
    gone = refl;
  }

  held_tied : (u x : ℕ) → Contains h.pairs (u, x) → ¬ Contains whole.gone u
  held_tied u x c = elim (tied_pair g h tie u x c) [
    | inl d ↦ ((kept.pairs u x).0 d).1
    | inr both ↦ reached_held whole sound u (reached_whole g whole kept u both.0)
  ]

  pub tie_kept : IsKeptPart h (whole_tied whole h)
  tie_kept = record {
    made = tie.made ∙ kept.made;
    roots = tie.roots ∙ kept.roots;
    gone = tie.gone ∙ kept.gone;
    pairs = λ u x. (
      (λ c. (Contains-append_right whole.pairs h.pairs (u, x) c, held_tied u x c)),
      (λ b. elim (Contains-append_cases whole.pairs h.pairs (u, x) b.0) [
        | inl d ↦ tie.pairs_kept u x ((kept.pairs u x).1 (d, b.1))
        | inr d ↦ d
      ]),
    );
  }
