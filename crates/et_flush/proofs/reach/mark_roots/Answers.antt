use Rattle.std.proofs.Common.{◌≡◌, ℕ, ◌-◌, ◌<◌, List, Bool, Contains, length, map, get_or, set, true, false, refl, sym, ◌∙◌, ap, arith}
use Rattle.std.proofs.lemmas.Bool.{both_ways}
use Rattle.std.proofs.lemmas.List.{get_or_default}
use Rattle.et_graph.specs.Times.{set_each, IsSet}
use Rattle.et_flush.specs.declared.times.TheConstants.{NOW}
use Rattle.et_flush.specs.Ranks.{rank_of}
use Rattle.et_flush.proofs.Searching.{mapped}
use Rattle.et_flush.proofs.Marking.{marked_none, now_none, marked_more, now_more, counted_more, set_next, set_before, set_end}
use Rattle.et_flush.proofs.reach.mark_roots.Goals as goal
use Rattle.et_flush.proofs.reach.mark_roots.Goals.{then-not-seen-place_of, else-not-seen-place_of}

pub loop-root-init : goal.loop-root-init
loop-root-init c = record {
  ready = c.requires.ready;
  times = refl;
  marked = marked_none (map (rank_of c.args.ranks.now) c.args.roots.now) c.args.seen.now c.args.waiting.now.items c.requires.unseen c.requires.empty;
  now = now_none c.args.times.now c.args.waiting.now.items c.requires.empty;
  counted = omega (arith, ap length c.requires.empty);
  room = omega arith;
}

pub rank_at-rank-requires : goal.rank_at-rank-requires
rank_at-rank-requires c = (c.requires.ranked c.root-item.result (c.loop-root.root-index, c.loop-root-test.true, sym c.root-item.is)).entry

pub place_of-requires : goal.place_of-requires
place_of-requires c =
    let has = c.requires.ranked c.root-item.result (c.loop-root.root-index, c.loop-root-test.true, sym c.root-item.is) in
    let first = has.first in
    omega (arith, first, c.rank_at-rank.ensures)

pub bounds-seen-place_of : goal.bounds-seen-place_of
bounds-seen-place_of c =
    let has = c.requires.ranked c.root-item.result (c.loop-root.root-index, c.loop-root-test.true, sym c.root-item.is) in
    let first = has.first in
    let last = has.last in
    omega (arith, first, last, c.rank_at-rank.ensures, c.place_of.ensures.place, c.loop-root.invariant.ready.long, c.loop-root.auto.times)

pub mark-requires-clause-last : goal.mark-requires-clause-last
mark-requires-clause-last c =
    let has = c.requires.ranked c.root-item.result (c.loop-root.root-index, c.loop-root-test.true, sym c.root-item.is) in
    let last = has.last in
    omega (arith, last, c.rank_at-rank.ensures, c.loop-root.auto.times)

pub mark-requires-clause-unseen : goal.mark-requires-clause-unseen
mark-requires-clause-unseen c = λ s. both_ways (get_or c.loop-root.seen c.place_of.result false) c.if-not-seen-place_of.true (ap (λ (i : ℕ). get_or c.loop-root.seen i false) (omega (arith, c.place_of.ensures.place)) ∙ s)

pub loop-root-preserved : goal.loop-root-preserved
loop-root-preserved c =
    let x : ℕ = c.rank_at-rank.result in
    let i : ℕ = c.loop-root.root-index in
    let f : ℕ → ℕ = rank_of c.args.ranks.now in
    let roots : List ℕ = c.args.roots.now in
    let times : List ℕ = c.loop-root.times in
    let seen : List Bool = c.loop-root.seen in
    let all : List ℕ = set_each (map f roots) NOW c.args.times.now in
    let here : Contains roots c.root-item.result = (i, c.loop-root-test.true, sym c.root-item.is) in
    let has = c.requires.ranked c.root-item.result here in
    let first = has.first in
    let last = has.last in
    let rank : x ≡ f c.root-item.result = c.rank_at-rank.ensures in
    let number : x ≡ f (get_or roots i 0) = rank ∙ ap f (c.root-item.is ∙ get_or_default roots i c.root-item.result 0 c.loop-root-test.true) in
    let above : 0 < x = omega (arith, first, rank) in
    let place : x - 1 ≡ c.place_of.result = omega (arith, c.place_of.ensures.place) in
    let within : x - 1 < length times = omega (arith, above, last, rank, c.loop-root.auto.times) in
    let inside : x - 1 < length seen = omega (arith, within, c.loop-root.invariant.ready.long) in
    let there : Contains (map f roots) x = rw rank (mapped f roots c.root-item.result here) in
    elim c.if-not-seen-place_of.branch [
      | then-not-seen-place_of w ↦
          let unseen : ¬ IsSet seen x = λ s. both_ways (get_or seen c.place_of.result false) w.if-not-seen-place_of.true (ap (λ (j : ℕ). get_or seen j false) (sym place) ∙ s) in
          let times_is : c.if-not-seen-place_of.times ≡ set times (x - 1) NOW = w.times-is ∙ w.mark.ensures.times in
          let seen_is : c.if-not-seen-place_of.seen ≡ set seen (x - 1) true = w.seen-is ∙ w.mark.ensures.seen in
          record {
            ready = rw (w.times-is, w.seen-is, w.waiting-is) w.mark.ensures.ready;
            times = rw times_is (set_next f roots i x NOW times all c.loop-root-test.true number c.loop-root.invariant.times);
            marked = rw (seen_is, w.waiting-is, w.mark.ensures.work) (marked_more (map f roots) times seen c.loop-root.waiting.items x inside above there c.loop-root.invariant.marked);
            now = rw (times_is, w.waiting-is, w.mark.ensures.work) (now_more (map f roots) times seen c.loop-root.waiting.items x inside above within c.loop-root.invariant.now);
            counted = rw (seen_is, w.waiting-is, w.mark.ensures.work) (counted_more (map f roots) times seen c.loop-root.waiting.items x inside above _ unseen c.loop-root.invariant.counted);
            room = rw w.waiting-is (omega (arith, w.mark.ensures.grows, c.loop-root.invariant.room));
          }
      | else-not-seen-place_of w ↦
          let set_before_this : IsSet seen x = ap (λ (j : ℕ). get_or seen j false) place ∙ w.if-not-seen-place_of.false in
          record {
            ready = rw (w.times-is, w.seen-is, w.waiting-is) c.loop-root.invariant.ready;
            times = rw w.times-is (set_before f roots i x NOW times all c.loop-root-test.true number (c.loop-root.invariant.now x (c.loop-root.invariant.marked.wait x above set_before_this)) c.loop-root.invariant.times);
            marked = rw (w.seen-is, w.waiting-is) c.loop-root.invariant.marked;
            now = rw (w.times-is, w.waiting-is) c.loop-root.invariant.now;
            counted = rw (w.seen-is, w.waiting-is) c.loop-root.invariant.counted;
            room = rw w.waiting-is c.loop-root.invariant.room;
          }
    ]

pub returns-clause-times : goal.returns-clause-times
returns-clause-times c = set_end (rank_of c.args.ranks.now) c.args.roots.now c.loop-root.root-index NOW c.loop-root.times _ c.loop-root-test.false c.loop-root.invariant.times
