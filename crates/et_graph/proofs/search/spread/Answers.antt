use Rattle.std.proofs.Common.{◌≡◌, ℕ, ◌+◌, ◌-◌, ◌<◌, List, Bool, [], ◌∷◌, length, get_or, sym, ◌∙◌, ap, subst, arith, false}
use Rattle.std.proofs.lemmas.Bool.{both_ways}
use Rattle.std.proofs.lemmas.List.{length-append}
use Rattle.et_graph.specs.Times.{ArePairsWithin, IsSet}
use Rattle.et_base.proofs.Lists.{none_long}
use Rattle.et_graph.proofs.Among.{among_within, waits_one, waits_front, waits_last, waits_visit, seen_none, seen_mark, seen_visit, counted_mark}
use Rattle.et_graph.proofs.Rounds.{IsCarrying, carrying_source, carrying_visit, carrying_end}
use Rattle.et_graph.proofs.search.spread.Goals as goal

-- the object wasn't seen
not_seen : (seen : List Bool) (o place : ℕ) → place + 1 ≡ o → get_or seen place false ≡ false → ¬ IsSet seen o
not_seen seen o place at off = λ s. both_ways (get_or seen place false) off (ap (λ (i : ℕ). get_or seen i false) (let same : place ≡ o - 1 = omega arith in same) ∙ s)

time_is : (times : List ℕ) (o place : ℕ) → place + 1 ≡ o → get_or times place 0 ≡ get_or times (o - 1) 0
time_is times o place at = ap (λ (i : ℕ). get_or times i 0) (let same : place ≡ o - 1 = omega arith in same)

pub place_of-place-requires : goal.place_of-place-requires
place_of-place-requires g c = (c.requires.within c.args.source c.requires.source).0

pub loop-object-init : goal.loop-object-init
loop-object-init g c =
    let has = g.R.References.has_object c.args.references.now in
    let at = c.requires.within c.args.source c.requires.source in
    let inside : c.args.source - 1 < length c.args.times.now = omega (arith, at) in
    let inside' : c.args.source - 1 < length c.args.seen.now = omega (arith, inside, c.requires.ready.long) in
    let unseen : ¬ IsSet c.args.seen.now c.args.source = not_seen c.args.seen.now c.args.source c.place_of-place.result c.place_of-place.ensures.place c.if-seen-place.false in
    record {
      ready = c.mark.ensures.ready;
      carrying =
          rw (c.mark.ensures.times, c.mark.ensures.seen, c.mark.ensures.work, c.requires.empty)
          (carrying_source (g.R.References.pairs_in c.args.references.now) c.args.source (get_or c.args.times.now c.place_of-place.result 0) (length c.args.times.now) c.args.times.now c.args.seen.now
          (among_within has (length c.args.times.now) (g.R.References.pairs_in c.args.references.now) c.requires.within c.requires.pairs)
          c.requires.ready.long at.0 inside (time_is c.args.times.now c.args.source c.place_of-place.result c.place_of-place.ensures.place) unseen);
      waits = rw (c.mark.ensures.work, c.requires.empty) (waits_one has c.args.source c.requires.source);
      seen_since = rw c.mark.ensures.seen (seen_mark has c.args.seen.now c.args.seen.now c.args.source inside' at.0 c.requires.source (seen_none has c.args.seen.now));
      room = c.mark.ensures.grows;
      counted = counted_mark c.args.seen.now c.mark.new.seen c.args.source (g.R.References.count_of c.args.count.now) c.mark.new.work.items c.args.work.now.items inside' unseen c.mark.ensures.seen c.mark.ensures.work c.requires.empty;
    }

pub visit-requires-clause-object : goal.visit-requires-clause-object
visit-requires-clause-object g c = waits_last (g.R.References.has_object c.args.references.now) c.loop-object.work.items c.pop.new.self.items c.in-Some.object c.in-Some.ensures.items c.loop-object.invariant.waits

pub visit-requires-clause-within : goal.visit-requires-clause-within
visit-requires-clause-within g c =
    subst (λ (n : ℕ). ArePairsWithin n (g.R.References.pairs_in c.args.references.now)) (sym (c.loop-object.auto.times ∙ c.mark.auto.times))
    (among_within (g.R.References.has_object c.args.references.now) (length c.args.times.now) (g.R.References.pairs_in c.args.references.now) c.requires.within c.requires.pairs)

pub loop-object-preserved : goal.loop-object-preserved
loop-object-preserved g c =
    let has = g.R.References.has_object c.args.references.now in
    let pairs : List (ℕ × ℕ) = g.R.References.pairs_in c.args.references.now in
    let time : ℕ = get_or c.args.times.now c.place_of-place.result 0 in
    let front : List ℕ = c.pop.new.self.items in
    let popped : length c.loop-object.work.items ≡ length front + 1 = ap length c.in-Some.ensures.items ∙ length-append front (c.in-Some.object ∷ []) in
    record {
      ready = c.visit.ensures.ready;
      carrying =
          carrying_visit pairs c.args.source time c.in-Some.object c.args.times.now c.args.seen.now
          c.loop-object.times c.loop-object.seen front c.visit.new.times c.visit.new.seen c.visit.new.work.items
          (subst (λ (ws : List ℕ). IsCarrying pairs c.args.source time c.args.times.now c.args.seen.now c.loop-object.times c.loop-object.seen ws)
          c.in-Some.ensures.items c.loop-object.invariant.carrying)
          c.visit.ensures.visits;
      waits =
          waits_visit has pairs c.in-Some.object front c.visit.new.work.items c.requires.pairs c.visit.ensures.visits.waits_since
          (waits_front has c.loop-object.work.items front c.in-Some.object c.in-Some.ensures.items c.loop-object.invariant.waits);
      seen_since = seen_visit has pairs c.in-Some.object c.args.seen.now c.loop-object.seen c.visit.new.seen c.requires.pairs c.loop-object.invariant.seen_since c.visit.ensures.visits.seen_since;
      room = omega (arith, c.visit.ensures.grows, c.in-Some.ensures.capacity, c.loop-object.invariant.room);
      counted = omega (arith, popped, c.visit.ensures.visits.spent, c.visit.ensures.counted, c.loop-object.invariant.counted);
    }

pub returns-clause-spreads : goal.returns-clause-spreads
returns-clause-spreads g c =
    carrying_end (g.R.References.pairs_in c.args.references.now) c.args.source (get_or c.args.times.now c.place_of-place.result 0) c.args.times.now c.args.seen.now c.loop-object.times c.loop-object.seen c.loop-object.work.items
    (time_is c.args.times.now c.args.source c.place_of-place.result c.place_of-place.ensures.place)
    (not_seen c.args.seen.now c.args.source c.place_of-place.result c.place_of-place.ensures.place c.if-seen-place.false)
    (none_long c.loop-object.work.items (omega (arith, c.loop-object.work.ok.0, c.in_default.ensures.cases)))
    c.loop-object.invariant.carrying
