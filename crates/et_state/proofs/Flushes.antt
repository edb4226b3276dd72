-- A state that is cleared is one whose graph was flushed.
use Rattle.std.proofs.Common.{◌≡◌, ℕ, ◌+◌, ◌-◌, ◌<◌, ◌≤◌, ◌⊎◌, ◌↔◌, Bool, true, List, length, Contains, refl, sym, ap, subst, inl, inr, arith}
use Rattle.et_graph.specs.Graph.{IsReached, AreDead}
use Rattle.et_graph.specs.Steps.{IsFlush}
use Rattle.et_base.proofs.Lists.{cases_number}
use Rattle.et_heap.specs.Objects.{IsHeld}
use Rattle.et_heap.specs.Refs.{gone_of}
use Rattle.et_heap.specs.Remaining.{remaining}
use Rattle.et_heap.proofs.HeapLists.{gone_at, at_gone}
use Rattle.et_state.specs.State.{State}
use Rattle.et_state.specs.Roots.{graph}
use Rattle.et_state.specs.Past.{IsPast, cleared_state}
use Rattle.et_state.specs.Sound.{IsSound}
use Rattle.et_state.proofs.Wholes.{flush_pairs, length-remaining, remaining_held, held_remaining}

-- here says of each held object whether it is reached
pub flush_is : (s : State) (here : ℕ → Bool) (reports : List ℕ) → IsSound s.kept → IsPast s.kept.heap s.reported → ((o : ℕ) → IsHeld s.kept.heap o → (here o ≡ true) ↔ IsReached (graph s) o) → AreDead (graph s) reports → IsFlush (graph s) reports (graph (cleared_state here s))
flush_is s here reports sound past tells are = record {
  dead = are;
  made = ap (λ (n : ℕ). n - 1) (length-remaining here 0 s.kept.heap);
  roots = refl;
  pairs = λ u x. let p = flush_pairs here s.kept.heap s.reported past u x in (p.1, p.0);
  gone = λ o. (gone_now o, gone_later o);
} where
  at_start : (o : ℕ) → 0 + o ≡ o
  at_start o = omega arith

  unreached : (o : ℕ) → 0 < o → o < length s.kept.heap → ¬ Contains (gone_of s.kept.heap) o → ¬ IsHeld (remaining here 0 s.kept.heap) o → ¬ IsReached (graph s) o
  unreached o h lt out left r =
      out (at_gone s.kept.heap o h lt (λ held. left (held_remaining here 0 s.kept.heap o held (subst (λ (n : ℕ). here n ≡ true) (sym (at_start o)) ((tells o held).1 r)))))

  gone_now : (o : ℕ) → Contains (gone_of (remaining here 0 s.kept.heap)) o → Contains (gone_of s.kept.heap) o ⊎ Contains reports o
  gone_now o c =
      let g = gone_at (remaining here 0 s.kept.heap) o c in
      let lt : o < length s.kept.heap = subst (λ (n : ℕ). o < n) (length-remaining here 0 s.kept.heap) g.1 in
      elim (cases_number (gone_of s.kept.heap) o) [
        | inl d ↦ inl d
        | inr out ↦
            let positive = g.0 in
            let made : o ≤ length s.kept.heap - 1 = omega arith in
            inr ((are.exact o).1 ((g.0, made), λ r. unreached o g.0 lt out g.2 r, out))
      ]

  gone_later : (o : ℕ) → Contains (gone_of s.kept.heap) o ⊎ Contains reports o → Contains (gone_of (remaining here 0 s.kept.heap)) o
  gone_later o (inl c) =
      let g = gone_at s.kept.heap o c in
      at_gone (remaining here 0 s.kept.heap) o g.0 (subst (λ (n : ℕ). o < n) (sym (length-remaining here 0 s.kept.heap)) g.1) (λ held. g.2 (remaining_held here 0 s.kept.heap o held).0)
  gone_later o (inr c) =
      let dead = (are.exact o).0 c in
      let positive = dead.0.0 in
      let made = dead.0.1 in
      let room = sound.room in
      let lt : o < length s.kept.heap = omega arith in
      at_gone (remaining here 0 s.kept.heap) o dead.0.0 (subst (λ (n : ℕ). o < n) (sym (length-remaining here 0 s.kept.heap)) lt)
      (λ held. let r = remaining_held here 0 s.kept.heap o held in dead.1 ((tells o r.0).0 (subst (λ (n : ℕ). here n ≡ true) (at_start o) r.1)))
