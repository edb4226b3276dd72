use Rattle.std.proofs.Common.{◌≡◌, ℕ, ◌-◌, ◌<◌, List, Bool, length, get_or, slice_set, true, false, refl, sym, ◌∙◌, ap, arith}
use Rattle.std.proofs.lemmas.Bool.{both_ways}
use Rattle.et_graph.specs.Times.{IsSet}
use Rattle.et_graph.proofs.Spreading.{set_here, set_keeps}
use Rattle.et_graph.proofs.Visiting.{visiting_none, visiting_mark, visiting_all, seen_more, seen_all, target_at}
use Rattle.et_graph.proofs.sorted.SortedPairsReferencesUnit.visit.Goals as goal
use Rattle.et_graph.proofs.sorted.SortedPairsReferencesUnit.visit.Goals.{then-not-seen-place_of, else-not-seen-place_of}

pub loop-pair-init : goal.loop-pair-init
loop-pair-init c = record {
  ready = c.requires.ready;
  visiting = visiting_none _ _ _ _ _ _;
  done = λ k d lt. absurd (omega arith);
  room = omega arith;
}

pub place_of-requires : goal.place_of-requires
place_of-requires c = (target_at c.args.self.now.pairs.now c.pairs_of-pair-items.result.now (length c.args.times.now) c.args.object c.loop-pair.pair-index c.pair-item.result c.requires.within c.pairs_of-pair-items.ensures c.loop-pair-test.true c.pair-item.is).1

pub bounds-seen-place_of : goal.bounds-seen-place_of
bounds-seen-place_of c = omega (arith, target_at c.args.self.now.pairs.now c.pairs_of-pair-items.result.now (length c.args.times.now) c.args.object c.loop-pair.pair-index c.pair-item.result c.requires.within c.pairs_of-pair-items.ensures c.loop-pair-test.true c.pair-item.is, c.place_of.ensures.place, c.loop-pair.invariant.ready.long, c.loop-pair.auto.times)

pub mark-requires-clause-last : goal.mark-requires-clause-last
mark-requires-clause-last c = omega (arith, target_at c.args.self.now.pairs.now c.pairs_of-pair-items.result.now (length c.args.times.now) c.args.object c.loop-pair.pair-index c.pair-item.result c.requires.within c.pairs_of-pair-items.ensures c.loop-pair-test.true c.pair-item.is, c.loop-pair.auto.times)

pub mark-requires-clause-unseen : goal.mark-requires-clause-unseen
mark-requires-clause-unseen c = λ s. both_ways (get_or c.loop-pair.seen c.place_of.result false) c.if-not-seen-place_of.true (ap (λ (i : ℕ). get_or c.loop-pair.seen i false) (omega (arith, c.place_of.ensures.place)) ∙ s)

pub loop-pair-preserved : goal.loop-pair-preserved
loop-pair-preserved c =
    let x : ℕ = c.pair-item.result.1 in
    let t : ℕ = c.args.time in
    let times : List ℕ = c.loop-pair.times in
    let seen : List Bool = c.loop-pair.seen in
    let place : x - 1 ≡ c.place_of.result = omega (arith, c.place_of.ensures.place) in
    let target = target_at c.args.self.now.pairs.now c.pairs_of-pair-items.result.now (length c.args.times.now) c.args.object c.loop-pair.pair-index c.pair-item.result c.requires.within c.pairs_of-pair-items.ensures c.loop-pair-test.true c.pair-item.is in
    let within : x - 1 < length times = omega (arith, target, c.loop-pair.auto.times) in
    let long : length seen ≡ length times = c.loop-pair.invariant.ready.long in
    elim c.if-not-seen-place_of.branch [
      | then-not-seen-place_of w ↦
          let unseen : ¬ IsSet seen x = λ s. both_ways (get_or seen c.place_of.result false) w.if-not-seen-place_of.true (ap (λ (i : ℕ). get_or seen i false) (sym place) ∙ s) in
          let seen_is : c.if-not-seen-place_of.seen ≡ slice_set seen (x - 1) true = w.seen-is ∙ w.mark.ensures.seen in
          record {
            ready = rw (w.times-is, w.seen-is, w.work-is) w.mark.ensures.ready;
            visiting =
                rw (w.times-is, w.mark.ensures.times, seen_is, w.work-is, w.mark.ensures.work)
                (visiting_mark c.args.self.now.pairs.now c.args.object t (length c.args.times.now) c.args.times.now c.args.seen.now c.args.work.now.items times seen c.loop-pair.work.items x
                c.requires.within target.0 long within unseen c.loop-pair.invariant.visiting);
            done =
                rw seen_is
                (seen_more c.pairs_of-pair-items.result.now c.loop-pair.pair-index c.pair-item.result seen (slice_set seen (x - 1) true) c.loop-pair-test.true c.pair-item.is
                (set_keeps seen x (omega (arith, long, within))) (set_here seen x (omega (arith, long, within))) c.loop-pair.invariant.done);
            room = rw w.work-is (omega (arith, w.mark.ensures.grows, c.loop-pair.invariant.room));
          }
      | else-not-seen-place_of w ↦
          record {
            ready = rw (w.times-is, w.seen-is, w.work-is) c.loop-pair.invariant.ready;
            visiting = rw (w.times-is, w.seen-is, w.work-is) c.loop-pair.invariant.visiting;
            done =
                rw w.seen-is
                (seen_more c.pairs_of-pair-items.result.now c.loop-pair.pair-index c.pair-item.result seen seen c.loop-pair-test.true c.pair-item.is (λ y s. s)
                (ap (λ (i : ℕ). get_or seen i false) place ∙ w.if-not-seen-place_of.false) c.loop-pair.invariant.done);
            room = rw w.work-is c.loop-pair.invariant.room;
          }
    ]

pub returns-clause-visits : goal.returns-clause-visits
returns-clause-visits c =
    visiting_all c.args.self.now.pairs.now c.args.object c.args.time c.args.times.now c.args.seen.now c.args.work.now.items c.loop-pair.times c.loop-pair.seen c.loop-pair.work.items
    (λ x d. seen_all c.pairs_of-pair-items.result.now c.loop-pair.pair-index c.loop-pair.seen (c.args.object, x) c.loop-pair-test.false c.loop-pair.invariant.done ((c.pairs_of-pair-items.ensures (c.args.object, x)).1 (d, refl)))
    c.loop-pair.invariant.visiting
