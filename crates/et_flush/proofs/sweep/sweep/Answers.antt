use Rattle.std.proofs.Common.{◌≡◌, ℕ, ◌+◌, ◌<◌, ◌≤◌, List, [], ◌∷◌, ◌++◌, length, get_or, sym, ◌∙◌, ap, arith, drop, subst}
use Rattle.std.proofs.lemmas.List.{length-append, get_or_default, get_or_past}
use Rattle.et_heap.specs.Objects.{IsHeld, at, object_at}
use Rattle.et_heap.proofs.HeapLists.{held_within}
use Rattle.et_flush.specs.Ranks.{time_of, HasRank}
use Rattle.et_flush.specs.Sweeps.{is_now, visits_from, ReferentsWithin}
use Rattle.et_flush.proofs.Holding.{here_held, gap_first, gap_next, next_later}
use Rattle.et_flush.proofs.Sweeping.{swept_to, swept_step, held_before, within_before, visits_to, visits_step, swept_end, visits_end}
use Rattle.et_heap.specs.Cleared.{loses_referent, cleared_references}
use Rattle.et_flush.proofs.Searching.{time_ranked, held_rank}
use Rattle.et_flush.proofs.Clearing.{cleared_to, cleared_step, listed_where, unlisted_where, all_cleared}
use Rattle.std.proofs.lemmas.Bool.{eqb-true}
use Rattle.et_base.proofs.Lists.{none_long}
use Rattle.et_graph.specs.Listing.{death_pairs}
use Rattle.et_flush.proofs.Living.{all_remain, none_cleared}
use Rattle.et_flush.proofs.sweep.sweep.Goals as goal
use Rattle.et_flush.proofs.sweep.sweep.Goals.{then-sweep_one, else-sweep_one}

pub returns-then-is_empty-clause-heap : goal.returns-then-is_empty-clause-heap
returns-then-is_empty-clause-heap g c =
    all_remain c.args.heap.now (time_of c.args.ranks.now c.args.times.now) (death_pairs c.args.deaths.now) c.requires.deaths
    (ap death_pairs (none_long c.args.deaths.now (eqb-true _ _ (sym c.is_empty.ensures ∙ c.if-is_empty.true)))) c.requires.referents

pub returns-then-is_empty-clause-cleared : goal.returns-then-is_empty-clause-cleared
returns-then-is_empty-clause-cleared g c =
    c.clear.ensures.items
    ∙ none_cleared c.args.heap.now (time_of c.args.ranks.now c.args.times.now) (death_pairs c.args.deaths.now) c.requires.deaths
    (ap death_pairs (none_long c.args.deaths.now (eqb-true _ _ (sym c.is_empty.ensures ∙ c.if-is_empty.true)))) c.requires.referents

pub loop-i-init : goal.loop-i-init
loop-i-init g c =
    let end : ℕ = length c.args.heap.now in
    let next : ℕ = get_or c.args.held.now 0 end in
    let gap : (u : ℕ) → 0 ≤ u → u < next → IsHeld c.args.heap.now u → ⊥ = λ u _ lt h. gap_first c.args.heap.now c.args.held.now c.requires.held end u lt h in
    record {
      heap = swept_to (is_now (time_of c.args.ranks.now c.args.times.now)) 0 next c.args.heap.now (omega arith) gap;
      cleared =
          ap (λ (rs : List ℕ). rs ++ cleared_references (is_now (time_of c.args.ranks.now c.args.times.now)) next (drop next c.args.heap.now)) c.clear.ensures.items
          ∙ sym (cleared_to (is_now (time_of c.args.ranks.now c.args.times.now)) 0 next c.args.heap.now (omega arith) gap);
      few = omega (arith, ap length c.clear.ensures.items);
      room = omega (arith, c.clear.ensures.capacity);
      visits = omega (arith, visits_to (is_now (time_of c.args.ranks.now c.args.times.now)) 0 next c.args.heap.now (omega arith) gap);
    }

pub sweep_one-requires-clause-held : goal.sweep_one-requires-clause-held
sweep_one-requires-clause-held g c =
    let i : ℕ = c.loop-i.i in
    let end : ℕ = length c.args.heap.now in
    held_before (is_now (time_of c.args.ranks.now c.args.times.now)) c.args.heap.now c.loop-i.heap (get_or c.args.held.now i end) c.index-held-i.result c.loop-i.invariant.heap
    (c.index-held-i.is ∙ get_or_default c.args.held.now i c.index-held-i.result end c.loop-i-test.true) (here_held c.args.heap.now c.args.held.now c.requires.held i end c.loop-i-test.true)

pub sweep_one-requires-clause-time : goal.sweep_one-requires-clause-time
sweep_one-requires-clause-time g c =
    let number : get_or c.args.held.now c.loop-i.i 0 ≡ c.index-held-i.result = sym (c.index-held-i.is ∙ get_or_default c.args.held.now c.loop-i.i c.index-held-i.result 0 c.loop-i-test.true) in
    time_ranked c.args.held.now c.args.times.now c.args.ranks.now c.loop-i.i c.requires.ranked c.loop-i-test.true ∙ ap (λ (o : ℕ). time_of c.args.ranks.now c.args.times.now o) number

pub sweep_one-requires-clause-within : goal.sweep_one-requires-clause-within
sweep_one-requires-clause-within g c =
    let i : ℕ = c.loop-i.i in
    let end : ℕ = length c.args.heap.now in
    let referent : ReferentsWithin c.args.ranks.now (length c.args.times.now) (object_at c.args.heap.now (get_or c.args.held.now i end)) =
    λ r e.
    subst (λ (n : ℕ). HasRank c.args.ranks.now n r) (sym c.requires.long)
    (held_rank c.args.heap.now c.args.held.now c.args.ranks.now c.requires.held c.requires.ranked r (c.requires.referents (get_or c.args.held.now i end) r e)).0 in
    within_before (is_now (time_of c.args.ranks.now c.args.times.now)) c.args.ranks.now c.args.heap.now c.loop-i.heap (get_or c.args.held.now i end) c.index-held-i.result (length c.args.times.now) c.loop-i.invariant.heap
    (c.index-held-i.is ∙ get_or_default c.args.held.now i c.index-held-i.result end c.loop-i-test.true) referent

pub push-requires : goal.push-requires
push-requires g c = record { room = omega (arith, c.loop-i.cleared.ok.0, c.loop-i.invariant.few, c.loop-i.invariant.room, c.loop-i-test.true, c.requires.room) }

pub loop-i-preserved : goal.loop-i-preserved
loop-i-preserved g c =
    let i : ℕ = c.loop-i.i in
    let end : ℕ = length c.args.heap.now in
    let o : ℕ = c.index-held-i.result in
    let n : ℕ = get_or c.args.held.now i end in
    let m : ℕ = get_or c.args.held.now (i + 1) end in
    let here = is_now (time_of c.args.ranks.now c.args.times.now) in
    let all : List ℕ = cleared_references here 0 c.args.heap.now in
    let same : o ≡ n = c.index-held-i.is ∙ get_or_default c.args.held.now i c.index-held-i.result end c.loop-i-test.true in
    let within : n < end = held_within c.args.heap.now n (here_held c.args.heap.now c.args.held.now c.requires.held i end c.loop-i-test.true) in
    let more : n + 1 ≤ m = omega (arith, next_later c.args.heap.now c.args.held.now c.requires.held i c.loop-i-test.true) in
    let gap : (u : ℕ) → n + 1 ≤ u → u < m → IsHeld c.args.heap.now u → ⊥ = λ u from lt h. gap_next c.args.heap.now c.args.held.now c.requires.held i end u c.loop-i-test.true (omega (arith, from)) lt h in
    let heap =
    swept_step here c.args.heap.now c.loop-i.heap c.sweep_one.new.heap n o c.loop-i.invariant.heap same within c.sweep_one.ensures.heap
    ∙ swept_to here (n + 1) m c.args.heap.now more gap in
    let visits : c.sweep_one.new.visits + visits_from here m (drop m c.args.heap.now) ≤ c.args.visits.now + visits_from here 0 c.args.heap.now =
    omega (
      arith,
      visits_to here (n + 1) m c.args.heap.now more gap,
      visits_step here c.args.heap.now c.loop-i.heap n o (visits_from here 0 c.args.heap.now) c.args.visits.now c.loop-i.visits c.sweep_one.new.visits
          c.loop-i.invariant.heap same within c.loop-i.invariant.visits c.sweep_one.ensures.visits,
    ) in
    elim c.if-sweep_one.branch [
      | then-sweep_one w ↦
          let push : c.if-sweep_one.cleared.items ≡ c.loop-i.cleared.items ++ o ∷ [] = ap (λ v. v.items) w.cleared-is ∙ w.push.ensures.items in
          record {
            heap = heap;
            cleared =
                ap (λ (rs : List ℕ). c.if-sweep_one.cleared.items ++ rs) (sym (cleared_to here (n + 1) m c.args.heap.now more gap))
                ∙ cleared_step here c.args.heap.now c.loop-i.heap n o all c.loop-i.cleared.items c.if-sweep_one.cleared.items c.loop-i.invariant.heap same within c.loop-i.invariant.cleared
                (push ∙ listed_where c.sweep_one.result (loses_referent here (here o) (at c.loop-i.heap o)) c.loop-i.cleared.items o c.sweep_one.ensures.cleared w.if-sweep_one.true);
            few = omega (arith, ap length push, length-append c.loop-i.cleared.items (o ∷ []), c.loop-i.invariant.few);
            room = rw w.cleared-is (omega (arith, w.push.ensures.grows, c.loop-i.invariant.room));
            visits = visits;
          }
      | else-sweep_one w ↦
          rw w.cleared-is (record {
            heap = heap;
            cleared =
                ap (λ (rs : List ℕ). c.loop-i.cleared.items ++ rs) (sym (cleared_to here (n + 1) m c.args.heap.now more gap))
                ∙ cleared_step here c.args.heap.now c.loop-i.heap n o all c.loop-i.cleared.items c.loop-i.cleared.items c.loop-i.invariant.heap same within c.loop-i.invariant.cleared
                (unlisted_where c.sweep_one.result (loses_referent here (here o) (at c.loop-i.heap o)) c.loop-i.cleared.items o c.sweep_one.ensures.cleared w.if-sweep_one.false);
            few = omega (arith, c.loop-i.invariant.few);
            room = omega (arith, c.loop-i.invariant.room);
            visits = visits;
          })
    ]

pub returns-clause-cleared : goal.returns-clause-cleared
returns-clause-cleared g c =
    let end : ℕ = length c.args.heap.now in
    let next : ℕ = get_or c.args.held.now c.loop-i.i end in
    all_cleared (is_now (time_of c.args.ranks.now c.args.times.now)) c.args.heap.now next (cleared_references (is_now (time_of c.args.ranks.now c.args.times.now)) 0 c.args.heap.now) c.loop-i.cleared.items c.loop-i.invariant.cleared
    (omega (arith, get_or_past c.args.held.now c.loop-i.i end c.loop-i-test.false))

pub returns-clause-heap : goal.returns-clause-heap
returns-clause-heap g c =
    let end : ℕ = length c.args.heap.now in
    let next : ℕ = get_or c.args.held.now c.loop-i.i end in
    swept_end (is_now (time_of c.args.ranks.now c.args.times.now)) c.args.heap.now c.loop-i.heap next c.loop-i.invariant.heap (omega (arith, get_or_past c.args.held.now c.loop-i.i end c.loop-i-test.false))

pub returns-clause-visits : goal.returns-clause-visits
returns-clause-visits g c =
    let end : ℕ = length c.args.heap.now in
    let next : ℕ = get_or c.args.held.now c.loop-i.i end in
    omega (arith, c.loop-i.invariant.visits, visits_end (is_now (time_of c.args.ranks.now c.args.times.now)) next c.args.heap.now (omega (arith, get_or_past c.args.held.now c.loop-i.i end c.loop-i-test.false)))
