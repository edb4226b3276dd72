-- A stamp is the greatest mark.
use Rattle.std.proofs.Common.{ℕ, ◌<◌, List, [], ◌∷◌, sym, subst, inl, inr, arith}
use Rattle.et_graph.specs.Graph.{IsMade}
use Rattle.et_graph.specs.History.{Turn, graph_after, IsHistory, steps, stamp, IsMark, IsGreatestMark}
use Rattle.et_graph.specs.History.Turn.{Took, Tied, Flushed}
use Rattle.et_base.proofs.Lists.{cases_number}
use Rattle.et_graph.proofs.Sound.{made_cases, flush_made}
use Rattle.et_graph.proofs.Ties.{tie_made}
use Rattle.et_graph.proofs.StampLemmas.{history_told, stamp_fresh, stamp_lost, stamp_kept}

pub mark_before : (turns : List Turn) (o t : ℕ) → IsMark turns o t → t < steps turns
mark_before [] o t m = absurd m
mark_before (Took s ∷ turns) o t (inl (inl h)) = omega (arith, h.1)
mark_before (Took s ∷ turns) o t (inl (inr h)) = omega (arith, h.1)
mark_before (Took s ∷ turns) o t (inr m) = omega (arith, mark_before turns o t m)
mark_before (Tied h ∷ turns) o t m = mark_before turns o t m
mark_before (Flushed h reports ∷ turns) o t m = mark_before turns o t m

pub stamps_greatest : (turns : List Turn) → IsHistory turns → (o : ℕ) → IsMade (graph_after turns) o → IsGreatestMark turns o (stamp turns o)
stamps_greatest [] h o made = absurd (omega (arith, made.0, made.1))
stamps_greatest (Tied after ∷ turns) h o made =
    let before = stamps_greatest turns h.0 o (tie_made (graph_after turns) after h.1 o made) in
    record { mark = before.mark; greatest = before.greatest }
stamps_greatest (Flushed after reports ∷ turns) h o made =
    let before = stamps_greatest turns h.0 o (flush_made (graph_after turns) after reports h.1 o made) in
    record { mark = before.mark; greatest = before.greatest }
stamps_greatest (Took s ∷ turns) h o made =
    let g = graph_after turns in
    elim (cases_number s.fresh o) [
      | inl c ↦ record {
        mark = inl (inl (c, stamp_fresh turns s o c));
        greatest = λ t m. omega (arith, mark_before (Took s ∷ turns) o t m, stamp_fresh turns s o c);
      }
      | inr new ↦ elim (cases_number s.lost o) [
        | inl c ↦
            let now = (history_told turns h.0).now o (elim (h.1.draft.lost_known o c) [ inl r ↦ r | inr f ↦ absurd (new f) ]) in
            record {
              mark = inl (inr (c, omega (arith, stamp_lost turns s o new c, now.1)));
              greatest = λ t. elim [
                | inl m ↦ elim m [
                  | inl f ↦ absurd (new f.0)
                  | inr l ↦ omega (arith, l.1, stamp_lost turns s o new c)
                ]
                | inr m ↦ omega (arith, mark_before turns o t m, stamp_lost turns s o new c)
              ];
            }
        | inr kept ↦ elim (made_cases g s h.1 o made) [
          | inr c ↦ absurd (new c)
          | inl was ↦
              let before = stamps_greatest turns h.0 o was in
              let same = stamp_kept turns s o new kept in
              record {
                mark = inr (subst (λ (t : ℕ). IsMark turns o t) (sym same) before.mark);
                greatest = λ t. elim [
                  | inl m ↦ elim m [ inl f ↦ absurd (new f.0) | inr l ↦ absurd (kept l.0) ]
                  | inr m ↦ omega (arith, before.greatest t m, same)
                ];
              }
        ]
      ]
    ]
