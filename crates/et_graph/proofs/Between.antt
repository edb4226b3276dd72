-- The pairs between two places of sorted pairs.
use Rattle.std.proofs.Common.{◌≡◌, ℕ, ◌+◌, ◌-◌, ◌<◌, ◌≤◌, ◌↔◌, List, length, get_or, take, drop, Contains, sym, ◌∙◌, ap, inl, inr, arith}
use Rattle.std.proofs.lemmas.Bool.{cases_lt}
use Rattle.std.proofs.lemmas.List.{get_or-take, get_or-drop, length-take-le, length-drop}

module _ (pairs : List (ℕ × ℕ)) (o a b : ℕ) (bound : b ≤ length pairs)
    (before_a : (k : ℕ) (d : ℕ × ℕ) → k < a → (get_or pairs k d).0 < o)
    (after_a : (k : ℕ) (d : ℕ × ℕ) → a ≤ k → k < length pairs → o ≤ (get_or pairs k d).0)
    (before_b : (k : ℕ) (d : ℕ × ℕ) → k < b → (get_or pairs k d).0 ≤ o)
    (after_b : (k : ℕ) (d : ℕ × ℕ) → b ≤ k → k < length pairs → o < (get_or pairs k d).0) where
  -- the one comes first
  pub ordered : a ≤ length pairs → a ≤ b
  ordered within =
      elim (cases_lt b a) [
        | inr le ↦ le
        | inl lt ↦
            let d : ℕ × ℕ = (0, 0) in
            absurd (omega (arith, before_a b d lt, after_b b d (omega arith) (omega arith)))
      ]

  part_long : a ≤ b → length (take (b - a) (drop a pairs)) ≡ b - a
  part_long le = length-take-le (b - a) (drop a pairs) (omega (arith, length-drop a pairs))

  part_at : (k : ℕ) (d : ℕ × ℕ) → k < b - a → get_or (take (b - a) (drop a pairs)) k d ≡ get_or pairs (a + k) d
  part_at k d lt = get_or-take (b - a) (drop a pairs) k d lt ∙ get_or-drop a pairs k d

  -- between them stand the pairs of o
  pub between : a ≤ b → (p : ℕ × ℕ) → Contains (take (b - a) (drop a pairs)) p ↔ (Contains pairs p × (p.0 ≡ o))
  between le p = (
    (λ c.
        let lt : c.0 < b - a = omega (arith, c.1, part_long le) in
        let at : get_or pairs (a + c.0) p ≡ p = sym (part_at c.0 p lt) ∙ c.2 in
        let first : (get_or pairs (a + c.0) p).0 ≡ p.0 = ap (λ (q : ℕ × ℕ). q.0) at in
        ((a + c.0, omega arith, at), omega (arith, first, before_b (a + c.0) p (omega arith), after_a (a + c.0) p (omega arith) (omega arith)))),
    (λ h.
        let k : ℕ = h.0.0 in
        let here : (get_or pairs k p).0 ≡ o = ap (λ (q : ℕ × ℕ). q.0) h.0.2 ∙ h.1 in
        let low : a ≤ k = elim (cases_lt k a) [ inl lt ↦ absurd (omega (arith, here, before_a k p lt)) | inr ge ↦ ge ] in
        let high : k < b = elim (cases_lt k b) [ inl lt ↦ lt | inr ge ↦ absurd (omega (arith, here, after_b k p ge h.0.1)) ] in
        let at : a + (k - a) ≡ k = omega arith in (
          k - a,
          omega (arith, part_long le),
          part_at (k - a) p (omega arith) ∙ ap (λ (i : ℕ). get_or pairs i p) at ∙ h.0.2,
        )),
  )
