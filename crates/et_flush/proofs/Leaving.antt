-- The graph of what a flush leaves.
use Rattle.std.proofs.Common.{◌≡◌, ℕ, ◌+◌, ◌-◌, ◌<◌, ◌≤◌, ◌⊎◌, ◌↔◌, Bool, true, false, List, length, Contains, refl, sym, ◌∙◌, ap, subst, inl, inr, arith, true≢false}
use Rattle.std.proofs.lemmas.Bool.{cases_Bool}
use Rattle.et_graph.specs.Graph.{IsReached, IsDead}
use Rattle.et_base.proofs.Lists.{cases_number}
use Rattle.et_graph.proofs.Walks.{is_reached, is_reached_decides}
use Rattle.et_heap.specs.Objects.{Objects, IsHeld}
use Rattle.et_heap.specs.Refs.{pairs_of, gone_of}
use Rattle.et_heap.specs.Remaining.{remaining}
use Rattle.et_heap.proofs.HeapLists.{pair_at, at_pair, pair_held, held_within, gone_at, at_gone}
use Rattle.et_state.specs.State.{Kept, MachineState, kept_of}
use Rattle.et_state.specs.Roots.{roots_of, graph_of}
use Rattle.et_state.specs.Sound.{IsSound}
use Rattle.et_state.proofs.Wholes.{length-remaining, remaining_held, held_remaining, remaining_pair, remaining_pair_stays}
use Rattle.et_graph.specs.Cleared.{IsCleared}
use Rattle.et_flush.specs.Flushes.{heap_graph}
use Rattle.et_flush.proofs.Targets.{held_above}

-- here says of each held object whether it is reached
pub cleared : (s : Kept) (here : ℕ → Bool) → IsSound s → ((o : ℕ) → IsHeld s.heap o → (here o ≡ true) ↔ IsReached (graph_of s) o)
    → IsCleared (graph_of s) (graph_of (record { heap = remaining here 0 s.heap; guest = s.guest }))
cleared s here sound tells = record {
  made = ap (λ (n : ℕ). n - 1) (length-remaining here 0 s.heap);
  roots = refl;
  gone = λ o. (gone_now o, gone_later o);
  pairs = λ u x. (pairs_now u x, pairs_later u x);
} where
  left : Objects
  left = remaining here 0 s.heap

  long : length left ≡ length s.heap
  long = length-remaining here 0 s.heap

  at_start : (o : ℕ) → 0 + o ≡ o
  at_start o = omega arith

  stays : (o : ℕ) → IsHeld s.heap o → here o ≡ true → IsHeld left o
  stays o held t = held_remaining here 0 s.heap o held (subst (λ (n : ℕ). here n ≡ true) (sym (at_start o)) t)

  stayed : (o : ℕ) → IsHeld left o → IsHeld s.heap o × (here o ≡ true)
  stayed o held = let r = remaining_held here 0 s.heap o held in (r.0, subst (λ (n : ℕ). here n ≡ true) (at_start o) r.1)

  gone_now : (o : ℕ) → Contains (gone_of left) o → Contains (gone_of s.heap) o ⊎ IsDead (graph_of s) o
  gone_now o c =
      let g = gone_at left o c in
      let lt : o < length s.heap = subst (λ (n : ℕ). o < n) long g.1 in
      elim (cases_number (gone_of s.heap) o) [
        | inl d ↦ inl d
        | inr out ↦
            let positive = g.0 in
            let made : o ≤ length s.heap - 1 = omega arith in
            inr ((g.0, made), λ r. out (at_gone s.heap o g.0 lt (λ held. g.2 (stays o held ((tells o held).1 r)))), out)
      ]

  gone_later : (o : ℕ) → Contains (gone_of s.heap) o ⊎ IsDead (graph_of s) o → Contains (gone_of left) o
  gone_later o (inl c) =
      let g = gone_at s.heap o c in
      at_gone left o g.0 (subst (λ (n : ℕ). o < n) (sym long) g.1) (λ held. g.2 (stayed o held).0)
  gone_later o (inr dead) =
      let positive = dead.0.0 in
      let made = dead.0.1 in
      let room = sound.room in
      let lt : o < length s.heap = omega arith in
      at_gone left o dead.0.0 (subst (λ (n : ℕ). o < n) (sym long) lt) (λ held. let r = stayed o held in dead.1 ((tells o r.0).0 r.1))

  pairs_now : (u x : ℕ) → Contains (pairs_of left) (u, x) → Contains (pairs_of s.heap) (u, x) × ¬ Contains (gone_of left) u
  pairs_now u x c =
      let p = pair_at left u x c in
      (at_pair s.heap u x (remaining_pair here 0 s.heap u x p), λ gone. (gone_at left u gone).2 (pair_held left u x p))

  pairs_later : (u x : ℕ) → Contains (pairs_of s.heap) (u, x) × ¬ Contains (gone_of left) u → Contains (pairs_of left) (u, x)
  pairs_later u x c =
      let p = pair_at s.heap u x c.0 in
      let held = pair_held s.heap u x p in
      elim (cases_Bool (here u)) [
        | inl t ↦ at_pair left u x (remaining_pair_stays here 0 s.heap u x (subst (λ (n : ℕ). here n ≡ true) (sym (at_start u)) t) p)
        | inr f ↦ absurd (c.1 (at_gone left u (held_above s.heap u sound.none held) (subst (λ (n : ℕ). u < n) (sym long) (held_within s.heap u held))
            (λ there. true≢false (sym (stayed u there).1 ∙ f))))
      ]

-- a test over the state of a machine, over its heap and the list of its roots
pub told : (m : MachineState) (heap : Objects) (roots : List ℕ) (here : ℕ → Bool) → heap ≡ m.heap → roots ≡ roots_of m.guest
    → ((o : ℕ) → IsHeld m.heap o → (here o ≡ true) ↔ IsReached (graph_of (kept_of m)) o) → (o : ℕ) → IsHeld heap o → (here o ≡ true) ↔ IsReached (heap_graph heap roots) o
told m heap roots here same listed tells =
    subst (λ (h : Objects). (o : ℕ) → IsHeld h o → (here o ≡ true) ↔ IsReached (heap_graph h roots) o) (sym same)
    (subst (λ (rs : List ℕ). (o : ℕ) → IsHeld m.heap o → (here o ≡ true) ↔ IsReached (heap_graph m.heap rs) o) (sym listed) tells)

-- the test that is true of what is reached
pub tells_reached : (m : MachineState) (o : ℕ) → IsHeld m.heap o → (is_reached (graph_of (kept_of m)) o ≡ true) ↔ IsReached (graph_of (kept_of m)) o
tells_reached m o held = is_reached_decides (graph_of (kept_of m)) o
