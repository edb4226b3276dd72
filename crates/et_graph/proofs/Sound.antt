-- What holds of each graph that steps and flushes lead to. `Ties` has the same of ties.
use Rattle.std.proofs.Common.{◌≡◌, ℕ, ◌+◌, ◌-◌, ◌<◌, ◌≤◌, ◌⊎◌, List, [], ◌∷◌, length, get_or, Contains, refl, sym, ◌∙◌, subst, inl, inr, arith}
use Rattle.std.proofs.lemmas.Bool.{cases_lt}
use Rattle.std.proofs.lemmas.List.{get_or_default}
use Rattle.et_graph.specs.Graph.{Graph, nothing_made, IsMade, IsWalk, LeadsTo, IsReached, IsSoundGraph}
use Rattle.et_graph.specs.Steps.{Step, IsKnown, IsAdded, IsLegalStep, IsFlush}
use Rattle.et_base.proofs.Lists.{Contains-none, cases_number, cases_pair}
use Rattle.et_graph.proofs.Walks.{reached_on, reached_all, walk_more}

pub nothing_sound : IsSoundGraph nothing_made
nothing_sound = record {
  roots_made = λ r c. absurd (Contains-none r c);
  pairs_made = λ u x c. absurd (Contains-none (u, x) c);
  gone_made = λ o c. absurd (Contains-none o c);
  roots_held = λ r c. absurd (Contains-none r c);
  gone_before = λ u x c. absurd (Contains-none (u, x) c);
}

pub reached_made : (g : Graph) → IsSoundGraph g → (o : ℕ) → IsReached g o → IsMade g o
reached_made g sound = reached_all (IsMade g) g sound.roots_made (λ u x c h. (sound.pairs_made u x c).1)

pub reached_held : (g : Graph) → IsSoundGraph g → (o : ℕ) → IsReached g o → ¬ Contains g.gone o
reached_held g sound =
    reached_all (λ o. ¬ Contains g.gone o) g sound.roots_held (λ u x c h gone. h (sound.gone_before u x c gone))

source_made : (g : Graph) → IsSoundGraph g → (u : ℕ) (walk : List ℕ) (o : ℕ) → IsWalk g.pairs u walk o → IsMade g o → IsMade g u
source_made g sound u [] o e h = subst (IsMade g) (sym e) h
source_made g sound u (x ∷ walk) o w h = (sound.pairs_made u x w.0).0

-- what leads to an object that was made was made
pub leads_made : (g : Graph) → IsSoundGraph g → (u o : ℕ) → LeadsTo g u o → IsMade g o → IsMade g u
leads_made g sound u o l h = source_made g sound u l.0 o l.1 h

-- Pairs after a step.
pub stepped_pair : (g : Graph) (s : Step) (u x : ℕ) → Contains s.after.pairs (u, x) → Contains g.pairs (u, x) ⊎ IsAdded g s u x
stepped_pair g s u x c =
    elim (cases_pair g.pairs (u, x)) [ inl d ↦ inl d | inr new ↦ inr (c, new) ]

pub fresh_range : (g : Graph) (s : Step) → IsLegalStep g s → (o : ℕ) → Contains s.fresh o → (g.made < o) × (o ≤ g.made + length s.fresh)
fresh_range g s legal o (k, lt, e) =
    let at : get_or s.fresh k 0 ≡ g.made + 1 + k = legal.draft.fresh_next k lt in
    let same : get_or s.fresh k 0 ≡ o = get_or_default s.fresh k 0 o lt ∙ e in
    (omega arith, omega arith)

-- made now: made before, or new
pub made_cases : (g : Graph) (s : Step) → IsLegalStep g s → (o : ℕ) → IsMade s.after o → IsMade g o ⊎ Contains s.fresh o
made_cases g s legal o made =
    elim (cases_lt g.made o) [
      | inr le ↦ inl (made.0, le)
      | inl lt ↦
          let k : ℕ = o - g.made - 1 in
          let in_fresh : k < length s.fresh = omega (arith, made.1, legal.draft.made) in
          let at : get_or s.fresh k 0 ≡ g.made + 1 + k = legal.draft.fresh_next k in_fresh in
          inr (k, in_fresh, get_or_default s.fresh k o 0 in_fresh ∙ at ∙ (omega arith))
    ]

made_more : (g : Graph) (s : Step) → IsLegalStep g s → (o : ℕ) → IsMade g o → IsMade s.after o
made_more g s legal o h = (h.0, omega (arith, h.1, legal.draft.made))

pub known_made : (g : Graph) (s : Step) → IsSoundGraph g → IsLegalStep g s → (o : ℕ) → IsKnown g s o → IsMade s.after o
known_made g s sound legal o (inl r) = made_more g s legal o (reached_made g sound o r)
known_made g s sound legal o (inr c) =
    let range = fresh_range g s legal o c in (omega (arith, range.0), omega (arith, range.1, legal.draft.made))

-- what is known isn't gone
pub known_held : (g : Graph) (s : Step) → IsSoundGraph g → IsLegalStep g s → (o : ℕ) → IsKnown g s o → ¬ Contains g.gone o
known_held g s sound legal o (inl r) = reached_held g sound o r
known_held g s sound legal o (inr c) = λ gone.
    let made = sound.gone_made o gone in
    let range = fresh_range g s legal o c in
    absurd (omega (arith, made.1, range.0))

-- a step reports nothing
pub gone_back : (g : Graph) (s : Step) → IsLegalStep g s → (o : ℕ) → Contains s.after.gone o → Contains g.gone o
gone_back g s legal o c = subst (λ (os : List ℕ). Contains os o) legal.draft.gone c

pub gone_on : (g : Graph) (s : Step) → IsLegalStep g s → (o : ℕ) → Contains g.gone o → Contains s.after.gone o
gone_on g s legal o c = subst (λ (os : List ℕ). Contains os o) (sym legal.draft.gone) c

pub stepped_sound : (g : Graph) (s : Step) → IsSoundGraph g → IsLegalStep g s → IsSoundGraph s.after
stepped_sound g s sound legal = record {
  roots_made = λ r c. (legal.draft.roots_held r c).0;
  pairs_made = λ u x c. elim (stepped_pair g s u x c) [
    | inl d ↦ let both = sound.pairs_made u x d in (made_more g s legal u both.0, made_more g s legal x both.1)
    | inr added ↦ let both = legal.draft.pairs_known u x added in (known_made g s sound legal u both.0, known_made g s sound legal x both.1)
  ];
  gone_made = λ o c. made_more g s legal o (sound.gone_made o (gone_back g s legal o c));
  roots_held = λ r c gone. (legal.draft.roots_held r c).1 (gone_back g s legal r gone);
  gone_before = λ u x c gone. subst (λ (os : List ℕ). Contains os u) (sym legal.draft.gone) (elim (stepped_pair g s u x c) [
    | inl d ↦ sound.gone_before u x d (gone_back g s legal x gone)
    | inr added ↦ absurd (known_held g s sound legal x (legal.draft.pairs_known u x added).1 (gone_back g s legal x gone))
  ]);
}

-- what a flush keeps
pub flush_reached : (g h : Graph) (dead : List ℕ) → IsFlush g dead h → (o : ℕ) → IsReached h o → IsReached g o
flush_reached g h dead is o r = (r.0, subst (λ (rs : List ℕ). Contains rs r.0) is.roots r.1, (r.2.0, walk_more h.pairs g.pairs (λ u x c. (is.pairs u x).0 c) r.0 r.2.0 o r.2.1))

pub reached_flush : (g h : Graph) (dead : List ℕ) → IsFlush g dead h → (o : ℕ) → IsReached g o → IsReached h o
reached_flush g h dead is o r = (r.0, subst (λ (rs : List ℕ). Contains rs r.0) (sym is.roots) r.1, (r.2.0, walk_more g.pairs h.pairs (λ u x c. (is.pairs u x).1 c) r.0 r.2.0 o r.2.1))

pub flush_made : (g h : Graph) (dead : List ℕ) → IsFlush g dead h → (o : ℕ) → IsMade h o → IsMade g o
flush_made g h dead is o made = (made.0, omega (arith, made.1, is.made))

made_flush : (g h : Graph) (dead : List ℕ) → IsFlush g dead h → (o : ℕ) → IsMade g o → IsMade h o
made_flush g h dead is o made = (made.0, omega (arith, made.1, is.made))

-- after a flush an object that was made and isn't reached is gone
pub flushed_gone : (g h : Graph) (dead : List ℕ) → IsFlush g dead h → (o : ℕ) → IsMade g o → ¬ IsReached g o → Contains h.gone o
flushed_gone g h dead is o made out =
    elim (cases_number g.gone o) [
      | inl c ↦ (is.gone o).1 (inl c)
      | inr held ↦ (is.gone o).1 (inr ((is.dead.exact o).1 (made, out, held)))
    ]

pub flushed_sound : (g h : Graph) (dead : List ℕ) → IsSoundGraph g → IsFlush g dead h → IsSoundGraph h
flushed_sound g h dead sound is = record {
  roots_made = λ r c. made_flush g h dead is r (sound.roots_made r (subst (λ (rs : List ℕ). Contains rs r) is.roots c));
  pairs_made = λ u x c. let both = sound.pairs_made u x ((is.pairs u x).0 c) in (made_flush g h dead is u both.0, made_flush g h dead is x both.1);
  gone_made = λ o c. made_flush g h dead is o (elim ((is.gone o).0 c) [
    | inl d ↦ sound.gone_made o d
    | inr d ↦ ((is.dead.exact o).0 d).0
  ]);
  roots_held = λ r c d.
      let root : Contains g.roots r = subst (λ (rs : List ℕ). Contains rs r) is.roots c in
      elim ((is.gone r).0 d) [
        | inl e ↦ sound.roots_held r root e
        | inr e ↦ ((is.dead.exact r).0 e).1 (r, root, ([], refl))
      ];
  gone_before = λ u x c d.
      let pair : Contains g.pairs (u, x) = (is.pairs u x).0 c in
      elim ((is.gone x).0 d) [
        | inl e ↦ (is.gone u).1 (inl (sound.gone_before u x pair e))
        | inr e ↦ flushed_gone g h dead is u (sound.pairs_made u x pair).0
            (λ r. ((is.dead.exact x).0 e).1 (reached_on g u x r (x ∷ [], (pair, refl))))
      ];
}
