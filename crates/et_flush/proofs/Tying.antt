-- References that are put in their queues one after the other.
use Rattle.std.proofs.Common.{◌≡◌, ℕ, suc, ◌+◌, ◌<◌, ◌↔◌, Bool, true, false, List, [], ◌∷◌, length, get_or, set, Option, Some, None, Contains, refl, sym, ◌∙◌, ap, subst, inl, inr, arith, drop, drop-cons}
use Rattle.std.proofs.lemmas.Bool.{cases_eq}
use Rattle.std.proofs.lemmas.List.Elements.{Contains-append_left, Contains-append_right, Contains-append_cases}
use Rattle.et_base.proofs.Lists.{Contains-none, Contains-cons}
use Rattle.et_graph.specs.Graph.{IsReached}
use Rattle.et_graph.proofs.Walks.{reached_on}
use Rattle.et_heap.specs.Objects.{ObjectState, Objects, IsHeld, object_at, with_object_at}
use Rattle.et_heap.specs.Queues.{HasQueue, with_waits, with_one_waiting, changed_at, put_in, enqueued}
use Rattle.std.specs.Option.{option_to_list}
use Rattle.et_heap.specs.Refs.{refs_of, leads_to, pairs_of}
use Rattle.et_heap.specs.Remaining.{remaining}
use Rattle.et_heap.proofs.HeapLists.{pair_at, at_pair, pair_held, held_within, held_set}
use Rattle.et_heap.specs.Cleared.{cleared_references}
use Rattle.et_flush.specs.Flushes.{all_enqueued, heap_graph}
use Rattle.et_state.proofs.UnderWay.{lead_pair, queue_pair, waiting_pair, set_pair_same, set_pair_other}
use Rattle.et_state.proofs.Wholes.{remaining_held, held_remaining, remaining_pair}
use Rattle.et_flush.proofs.Clearing.{cleared_stays}
use Rattle.et_flush.specs.Searches.{ArePairsHeld}

-- a reference can be put in its queue where what objects lead to is held
pub can_enqueue : (heap : Objects) (r : ℕ) → ArePairsHeld heap → HasQueue heap r
can_enqueue heap r pairs = record {
  held = λ q is. pairs r q (queue_pair heap r q is);
  whole = λ q is w c. pairs q w (waiting_pair heap q w c);
}

-- an object leads to what is held from then on
set_pairs_held : (xs : Objects) (o : ℕ) (y : ObjectState) → IsHeld xs o → ArePairsHeld xs → ((z : ℕ) → Contains (leads_to y) z → IsHeld xs z) → ArePairsHeld (set xs o (Some y))
set_pairs_held xs o y held pairs all u z c =
    elim (cases_eq u o) [
      | inr ne ↦ held_set xs o y z held (pairs u z (set_pair_other xs o u y z ne c))
      | inl e ↦
          let d : Contains (pairs_of (set xs o (Some y))) (o, z) = subst (λ (v : ℕ). Contains (pairs_of (set xs o (Some y))) (v, z)) e c in
          held_set xs o y z held (all z (set_pair_same xs o y z (held_within xs o held) d))
    ]

-- what was held is held, and what objects lead to is held
record IsPut (heap after : Objects) : Type 0 where
  held : (o : ℕ) → IsHeld heap o → IsHeld after o
  pairs : ArePairsHeld after

put_at : (heap : Objects) (r q : ℕ) → IsHeld heap r → ArePairsHeld heap → (object_at heap r).queue ≡ Some q → IsPut heap (changed_at (with_one_waiting r) q (changed_at (with_waits true) r heap))
put_at heap r q held pairs is =
    let x : ObjectState = with_waits true (object_at heap r) in
    let first : Objects = with_object_at heap r x in
    let first_pairs : ArePairsHeld first = set_pairs_held heap r x held pairs (λ z c. pairs r z (lead_pair heap r z c)) in
    let queue : IsHeld first q = held_set heap r x q held (pairs r q (queue_pair heap r q is)) in
    let w : ObjectState = object_at first q in
    let y : ObjectState = with_one_waiting r w in
    let there : (z : ℕ) → Contains (leads_to y) z → IsHeld first z = λ z c.
    elim (Contains-append_cases (refs_of w.slots) _ z c) [
      | inl d ↦ first_pairs q z (lead_pair first q z (Contains-append_left (refs_of w.slots) _ z d))
      | inr d ↦ elim (Contains-append_cases (option_to_list w.queue) _ z d) [
        | inl e ↦ first_pairs q z (lead_pair first q z (Contains-append_right (refs_of w.slots) _ z (Contains-append_left (option_to_list w.queue) _ z e)))
        | inr e ↦ elim (Contains-append_cases w.waiting (r ∷ []) z e) [
          | inl f ↦ first_pairs q z (waiting_pair first q z f)
          | inr f ↦ elim (Contains-cons r [] z f) [
            | inl same ↦ subst (λ (v : ℕ). IsHeld first v) same (held_set heap r x r held held)
            | inr g ↦ absurd (Contains-none z g)
          ]
        ]
      ]
    ] in
    record {
      held = λ o h. held_set first q y o queue (held_set heap r x o held h);
      pairs = set_pairs_held first q y queue first_pairs there;
    }

put_same : (heap : Objects) → ArePairsHeld heap → IsPut heap heap
put_same heap pairs = record { held = λ o h. h; pairs = pairs }

put_one : (heap : Objects) (r : ℕ) → IsHeld heap r → ArePairsHeld heap → IsPut heap (enqueued r heap)
put_one heap r held pairs = put (object_at heap r).queue (object_at heap r).waits refl where
  put : (q : Option ℕ) (b : Bool) → (object_at heap r).queue ≡ q → IsPut heap (put_in q b r heap)
  put None b is = put_same heap pairs
  put (Some q) true is = put_same heap pairs
  put (Some q) false is = put_at heap r q held pairs is

pub enqueued_pairs : (heap after : Objects) (r : ℕ) → IsHeld heap r → ArePairsHeld heap → after ≡ enqueued r heap → ArePairsHeld after
enqueued_pairs heap after r held pairs is = subst ArePairsHeld (sym is) (put_one heap r held pairs).pairs

pub enqueued_held : (heap after : Objects) (r : ℕ) → IsHeld heap r → ArePairsHeld heap → after ≡ enqueued r heap → (o : ℕ) → IsHeld heap o → IsHeld after o
enqueued_held heap after r held pairs is o h = subst (λ (xs : Objects). IsHeld xs o) (sym is) ((put_one heap r held pairs).held o h)

-- those that are left are put there later
pub enqueued_step : (references : List ℕ) (i r d : ℕ) (heap after all : Objects) → i < length references → r ≡ get_or references i d → all_enqueued (drop i references) heap ≡ all → after ≡ enqueued r heap → all_enqueued (drop (i + 1) references) after ≡ all
enqueued_step references i r d heap after all lt item sum is =
    let first : drop i references ≡ r ∷ drop (i + 1) references =
    drop-cons references i d lt ∙ (ap (λ (x : ℕ). x ∷ drop (suc i) references) (sym item) ∙ ap (λ (k : ℕ). r ∷ drop k references) (let e : suc i ≡ i + 1 = omega arith in e)) in
    ap (λ (xs : Objects). all_enqueued (drop (i + 1) references) xs) is ∙ (ap (λ (rs : List ℕ). all_enqueued rs heap) (sym first) ∙ sum)

-- WHAT THE SWEEP LEAVES

module _ (heap : Objects) (roots : List ℕ) (here : ℕ → Bool) (pairs : ArePairsHeld heap) (tells : (o : ℕ) → IsHeld heap o → (here o ≡ true) ↔ IsReached (heap_graph heap roots) o) where
  at_start : (o : ℕ) → 0 + o ≡ o
  at_start o = omega arith

  -- what stays leads to what stays
  pub remaining_pairs : ArePairsHeld (remaining here 0 heap)
  remaining_pairs u z c =
      let p = pair_at (remaining here 0 heap) u z c in
      let h = remaining_held here 0 heap u (pair_held (remaining here 0 heap) u z p) in
      let q : Contains (pairs_of heap) (u, z) = at_pair heap u z (remaining_pair here 0 heap u z p) in
      let r : IsReached (heap_graph heap roots) u = (tells u h.0).0 (subst (λ (n : ℕ). here n ≡ true) (at_start u) h.1) in
      let held : IsHeld heap z = pairs u z q in
      held_remaining here 0 heap z held (subst (λ (n : ℕ). here n ≡ true) (sym (at_start z)) ((tells z held).1 (reached_on (heap_graph heap roots) u z r (z ∷ [], (q, refl)))))

  -- .. and each reference that was cleared stays
  pub cleared_remain : (r : ℕ) → Contains (cleared_references here 0 heap) r → IsHeld (remaining here 0 heap) r
  cleared_remain r c = let h = cleared_stays here heap r c in held_remaining here 0 heap r h.0 (subst (λ (n : ℕ). here n ≡ true) (sym (at_start r)) h.1)
