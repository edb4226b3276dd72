-- What a tie keeps: the objects that are reached, and all that holds of a graph.
use Rattle.std.proofs.Common.{ℕ, ◌⊎◌, List, [], ◌∷◌, Contains, refl, sym, ◌∙◌, subst, inl, inr, arith}
use Rattle.std.proofs.lemmas.List.Elements.{Contains-append_left, Contains-append_cases}
use Rattle.et_graph.specs.Graph.{Graph, IsMade, LeadsTo, IsReached, IsSoundGraph}
use Rattle.et_graph.specs.Steps.{IsTie}
use Rattle.et_graph.specs.Edit.{with_pairs}
use Rattle.et_graph.specs.Times.{ArePairsAmong}
use Rattle.et_base.proofs.Lists.{cases_pair}
use Rattle.et_graph.proofs.Walks.{walk_more, reached_on, reached_all, root_reached}
use Rattle.et_graph.proofs.Sound.{reached_made, reached_held}

-- pairs between reached objects are a tie
pub pairs_tie : (g : Graph) (tied : List (ℕ × ℕ)) → ArePairsAmong (IsReached g) tied → IsTie g (with_pairs g tied)
pairs_tie g tied among = record {
  made = refl;
  roots = refl;
  pairs_kept = λ u x c. Contains-append_left g.pairs tied (u, x) c;
  pairs_reached = λ u x c new. elim (Contains-append_cases g.pairs tied (u, x) c) [
    | inl d ↦ absurd (new d)
    | inr d ↦ among u x d
  ];
  gone = refl;
}

module _ (g h : Graph) (tie : IsTie g h) where
  -- a pair after the tie: it was there, or joins what is reached
  pub tied_pair : (u x : ℕ) → Contains h.pairs (u, x) → Contains g.pairs (u, x) ⊎ (IsReached g u × IsReached g x)
  tied_pair u x c = elim (cases_pair g.pairs (u, x)) [ inl d ↦ inl d | inr new ↦ inr (tie.pairs_reached u x c new) ]

  pub leads_tied : (u o : ℕ) → LeadsTo g u o → LeadsTo h u o
  leads_tied u o l = (l.0, walk_more g.pairs h.pairs tie.pairs_kept u l.0 o l.1)

  pub reached_tie : (o : ℕ) → IsReached g o → IsReached h o
  reached_tie o r = (r.0, subst (λ (rs : List ℕ). Contains rs r.0) (sym tie.roots) r.1, leads_tied r.0 o r.2)

  pub tie_reached : (o : ℕ) → IsReached h o → IsReached g o
  tie_reached =
      reached_all (IsReached g) h
      (λ r c. root_reached g r (subst (λ (rs : List ℕ). Contains rs r) tie.roots c))
      (λ u x c r. elim (tied_pair u x c) [
        | inl d ↦ reached_on g u x r (x ∷ [], (d, refl))
        | inr both ↦ both.1
      ])

  pub tie_made : (o : ℕ) → IsMade h o → IsMade g o
  tie_made o made = (made.0, omega (arith, made.1, tie.made))

  made_tie : (o : ℕ) → IsMade g o → IsMade h o
  made_tie o made = (made.0, omega (arith, made.1, tie.made))

  pub tie_gone : (o : ℕ) → Contains h.gone o → Contains g.gone o
  tie_gone o c = subst (λ (os : List ℕ). Contains os o) tie.gone c

  pub gone_tie : (o : ℕ) → Contains g.gone o → Contains h.gone o
  gone_tie o c = subst (λ (os : List ℕ). Contains os o) (sym tie.gone) c

  pub tied_sound : IsSoundGraph g → IsSoundGraph h
  tied_sound sound = record {
    roots_made = λ r c. made_tie r (sound.roots_made r (subst (λ (rs : List ℕ). Contains rs r) tie.roots c));
    pairs_made = λ u x c. elim (tied_pair u x c) [
      | inl d ↦ let both = sound.pairs_made u x d in (made_tie u both.0, made_tie x both.1)
      | inr both ↦ (made_tie u (reached_made g sound u both.0), made_tie x (reached_made g sound x both.1))
    ];
    gone_made = λ o c. made_tie o (sound.gone_made o (tie_gone o c));
    roots_held = λ r c gone. sound.roots_held r (subst (λ (rs : List ℕ). Contains rs r) tie.roots c) (tie_gone r gone);
    gone_before = λ u x c gone. elim (tied_pair u x c) [
      | inl d ↦ gone_tie u (sound.gone_before u x d (tie_gone x gone))
      | inr both ↦ absurd (reached_held g sound x both.1 (tie_gone x gone))
    ];
  }

-- nothing is tied
pub tie_none : (g : Graph) → IsTie g g
tie_none g = record {
  made = refl;
  roots = refl;
  pairs_kept = λ u x c. c;
  pairs_reached = λ u x c new. absurd (new c);
  gone = refl;
}

-- a tie and then another one are a tie
pub tie_then : (g h k : Graph) → IsTie g h → IsTie h k → IsTie g k
tie_then g h k a b = record {
  made = b.made ∙ a.made;
  roots = b.roots ∙ a.roots;
  pairs_kept = λ u x c. b.pairs_kept u x (a.pairs_kept u x c);
  pairs_reached = λ u x c new. elim (tied_pair h k b u x c) [
    | inl d ↦ a.pairs_reached u x d new
    | inr both ↦ (tie_reached g h a u both.0, tie_reached g h a x both.1)
  ];
  gone = b.gone ∙ a.gone;
}
