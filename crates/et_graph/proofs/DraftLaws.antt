-- Drafts lead to drafts, and end as legal steps.
use Rattle.std.proofs.Common.{◌≡◌, ℕ, ◌+◌, ◌<◌, List, [], ◌∷◌, ◌++◌, length, get_or, Contains, refl, sym, ap, ◌∙◌, subst, inl, inr, arith}
use Rattle.std.proofs.lemmas.Bool.{cases_lt}
use Rattle.std.proofs.lemmas.List.{length-append, get_or_append_left, get_or-append-add, get_or_default}
use Rattle.std.proofs.lemmas.List.Elements.{Contains-append_left}
use Rattle.et_graph.specs.Graph.{Graph, IsReached, IsSoundGraph}
use Rattle.et_graph.specs.Steps.{Step, IsKnown, IsRemoved, IsLegalStep, IsDraft}
use Rattle.et_graph.specs.Drafts.{IsMove, IsMaking}
use Rattle.et_base.proofs.Lists.{cases_number, cases_pair}

pub draft_start : (g : Graph) → IsSoundGraph g → IsDraft g (record { after = g; fresh = []; lost = [] })
draft_start g sound = record {
  made = omega arith;
  fresh_next = λ k lt. absurd (omega arith);
  roots_lost = λ r c out. absurd (out c);
  pairs_lost = λ u x h. absurd (h.1 h.0);
  pairs_from_reached = λ u x h. absurd (h.1 h.0);
  pairs_known = λ u x h. absurd (h.1 h.0);
  lost_known = λ o c. let h : c.0 < 0 = c.1 in absurd (omega arith);
  roots_held = λ r c. (sound.roots_made r c, sound.roots_held r c);
  gone = refl;
}

pub draft_end : (g : Graph) (s : Step) → IsDraft g s → ((o : ℕ) → Contains s.fresh o → IsReached s.after o) → IsLegalStep g s
draft_end g s draft reached = record { draft = draft; fresh_reached = reached }

known_on : (g : Graph) (s t : Step) → t.fresh ≡ s.fresh → (o : ℕ) → IsKnown g s o → IsKnown g t o
known_on g s t e o (inl r) = inl r
known_on g s t e o (inr c) = inr (subst (λ (os : List ℕ). Contains os o) (sym e) c)

-- a new object isn't the beginning of a pair from before
fresh_new : (g : Graph) (s : Step) → IsSoundGraph g → IsDraft g s → (u x : ℕ) → Contains g.pairs (u, x) → Contains s.fresh u → ⊥
fresh_new g s sound draft u x c d =
    let at : get_or s.fresh d.0 0 ≡ g.made + 1 + d.0 = draft.fresh_next d.0 d.1 in
    let same : get_or s.fresh d.0 u ≡ get_or s.fresh d.0 0 = get_or_default s.fresh d.0 u 0 d.1 in
    absurd (omega (arith, (sound.pairs_made u x c).0.1, at, same, d.2))

removed_move : (g : Graph) (s t : Step) → IsSoundGraph g → IsDraft g s → IsMove g s t → (u x : ℕ) → IsRemoved g t u x → Contains t.lost x × IsReached g u
removed_move g s t sound draft move u x h =
    elim (cases_pair s.after.pairs (u, x)) [
      | inr out ↦ (move.lost_kept x (draft.pairs_lost u x (h.0, out)), draft.pairs_from_reached u x (h.0, out))
      | inl c ↦
          let off = move.pairs_off u x h.0 c h.1 in
          (off.0, elim off.1 [ inl r ↦ r | inr d ↦ absurd (fresh_new g s sound draft u x h.0 d) ])
    ]

pub draft_move : (g : Graph) (s t : Step) → IsSoundGraph g → IsDraft g s → IsMove g s t → IsDraft g t
draft_move g s t sound draft move = record {
  made = move.made ∙ draft.made ∙ ap (λ (os : List ℕ). g.made + length os) (sym move.fresh);
  fresh_next = λ k lt.
      let within : k < length s.fresh = subst (λ (os : List ℕ). k < length os) move.fresh lt in
      ap (λ (os : List ℕ). get_or os k 0) move.fresh ∙ draft.fresh_next k within;
  roots_lost = λ r c out. elim (cases_number s.after.roots r) [
    | inl d ↦ move.roots_off r c d out
    | inr before ↦ move.lost_kept r (draft.roots_lost r c before)
  ];
  pairs_lost = λ u x h. (removed_move g s t sound draft move u x h).0;
  pairs_from_reached = λ u x h. (removed_move g s t sound draft move u x h).1;
  pairs_known = λ u x h. elim (move.pairs_on u x h.0) [
    | inl c ↦ let both = draft.pairs_known u x (c, h.1) in (known_on g s t move.fresh u both.0, known_on g s t move.fresh x both.1)
    | inr both ↦ (known_on g s t move.fresh u both.0, known_on g s t move.fresh x both.1)
  ];
  lost_known = λ o c. known_on g s t move.fresh o (elim (move.lost_known o c) [ inl d ↦ draft.lost_known o d | inr r ↦ r ]);
  roots_held = λ r c. elim (move.roots_on r c) [
    | inl d ↦ let h = draft.roots_held r d in ((h.0.0, omega (arith, h.0.1, move.made)), h.1)
    | inr h ↦ h
  ];
  gone = move.gone ∙ draft.gone;
}

pub draft_making : (g : Graph) (s t : Step) → IsDraft g s → IsMaking s t → IsDraft g t
draft_making g s t draft making =
    let n : ℕ = s.after.made + 1 in
    let known : (o : ℕ) → IsKnown g s o → IsKnown g t o = λ o. elim [
      | inl r ↦ inl r
      | inr c ↦ inr (subst (λ (os : List ℕ). Contains os o) (sym making.fresh) (Contains-append_left s.fresh (n ∷ []) o c))
    ] in
    let pair_back : (u x : ℕ) → Contains t.after.pairs (u, x) → Contains s.after.pairs (u, x) = λ u x c. subst (λ (ps : List (ℕ × ℕ)). Contains ps (u, x)) making.pairs c in
    let pair_on : (u x : ℕ) → Contains s.after.pairs (u, x) → Contains t.after.pairs (u, x) = λ u x c. subst (λ (ps : List (ℕ × ℕ)). Contains ps (u, x)) (sym making.pairs) c in
    let lost_on : (o : ℕ) → Contains s.lost o → Contains t.lost o = λ o c. subst (λ (os : List ℕ). Contains os o) (sym making.lost) c in
    let long : length t.fresh ≡ length s.fresh + 1 = ap (λ (os : List ℕ). length os) making.fresh ∙ length-append s.fresh (n ∷ []) in
    record {
      made = omega (arith, making.made, draft.made, long);
      fresh_next = λ k lt. ap (λ (os : List ℕ). get_or os k 0) making.fresh ∙ elim (cases_lt k (length s.fresh)) [
        | inl within ↦ get_or_append_left s.fresh (n ∷ []) 0 k within ∙ draft.fresh_next k within
        | inr past ↦
            let at : k ≡ length s.fresh + 0 = omega (arith, long) in
            ap (λ (j : ℕ). get_or (s.fresh ++ n ∷ []) j 0) at ∙ get_or-append-add s.fresh (n ∷ []) 0 0 ∙ omega (arith, draft.made)
      ];
      roots_lost = λ r c out. lost_on r (draft.roots_lost r c (λ d. out (subst (λ (os : List ℕ). Contains os r) (sym making.roots) d)));
      pairs_lost = λ u x h. lost_on x (draft.pairs_lost u x (h.0, λ c. h.1 (pair_on u x c)));
      pairs_from_reached = λ u x h. draft.pairs_from_reached u x (h.0, λ c. h.1 (pair_on u x c));
      pairs_known = λ u x h. let both = draft.pairs_known u x (pair_back u x h.0, h.1) in (known u both.0, known x both.1);
      lost_known = λ o c. known o (draft.lost_known o (subst (λ (os : List ℕ). Contains os o) making.lost c));
      roots_held = λ r c.
          let h = draft.roots_held r (subst (λ (os : List ℕ). Contains os r) making.roots c) in
          ((h.0.0, omega (arith, h.0.1, making.made)), h.1);
      gone = making.gone ∙ draft.gone;
    }
