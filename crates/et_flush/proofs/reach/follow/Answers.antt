use Rattle.std.proofs.Common.{◌≡◌, ℕ, ◌+◌, List, [], ◌∷◌, length, sym, ◌∙◌, ap, subst, arith}
use Rattle.std.proofs.lemmas.List.{length-append}
use Rattle.et_base.proofs.Lists.{none_long}
use Rattle.et_graph.specs.Times.{ArePairsWithin}
use Rattle.et_graph.proofs.Among.{among_within, waits_front, waits_last, waits_visit}
use Rattle.et_flush.proofs.Marking.{IsFollowing, following_visit, following_end}
use Rattle.et_flush.proofs.reach.follow.Goals as goal

pub loop-object-init : goal.loop-object-init
loop-object-init g c = record {
  ready = c.requires.ready;
  following = λ start spread followed. (spread, followed);
  waits = c.requires.waits;
  room = omega arith;
  counted = omega arith;
}

pub visit-requires-clause-object : goal.visit-requires-clause-object
visit-requires-clause-object g c = waits_last (g.R.References.has_object c.args.references.now) c.loop-object.waiting.items c.pop.new.self.items c.in-Some.object c.in-Some.ensures.items c.loop-object.invariant.waits

pub visit-requires-clause-within : goal.visit-requires-clause-within
visit-requires-clause-within g c =
    subst (λ (n : ℕ). ArePairsWithin n (g.R.References.pairs_in c.args.references.now)) (sym c.loop-object.auto.times)
    (among_within (g.R.References.has_object c.args.references.now) (length c.args.times.now) (g.R.References.pairs_in c.args.references.now) c.requires.within c.requires.pairs)

pub loop-object-preserved : goal.loop-object-preserved
loop-object-preserved g c =
    let has = g.R.References.has_object c.args.references.now in
    let pairs : List (ℕ × ℕ) = g.R.References.pairs_in c.args.references.now in
    let front : List ℕ = c.pop.new.self.items in
    let popped : length c.loop-object.waiting.items ≡ length front + 1 = ap length c.in-Some.ensures.items ∙ length-append front (c.in-Some.object ∷ []) in
    record {
      ready = c.visit.ensures.ready;
      following =
          following_visit pairs c.args.time c.in-Some.object c.args.times.now c.args.seen.now c.args.waiting.now.items
          c.loop-object.times c.loop-object.seen front c.visit.new.times c.visit.new.seen c.visit.new.work.items
          (subst (λ (ws : List ℕ). IsFollowing pairs c.args.time c.args.times.now c.args.seen.now c.args.waiting.now.items c.loop-object.times c.loop-object.seen ws)
          c.in-Some.ensures.items c.loop-object.invariant.following)
          c.visit.ensures.visits;
      waits =
          waits_visit has pairs c.in-Some.object front c.visit.new.work.items c.requires.pairs c.visit.ensures.visits.waits_since
          (waits_front has c.loop-object.waiting.items front c.in-Some.object c.in-Some.ensures.items c.loop-object.invariant.waits);
      room = omega (arith, c.visit.ensures.grows, c.in-Some.ensures.capacity, c.loop-object.invariant.room);
      counted = omega (arith, popped, c.visit.ensures.visits.spent, c.visit.ensures.counted, c.loop-object.invariant.counted);
    }

pub returns-clause-follows : goal.returns-clause-follows
returns-clause-follows g c =
    following_end (g.R.References.pairs_in c.args.references.now) c.args.time c.args.times.now c.args.seen.now c.args.waiting.now.items c.loop-object.times c.loop-object.seen c.loop-object.waiting.items
    (none_long c.loop-object.waiting.items (omega (arith, c.loop-object.waiting.ok.0, c.in_default.ensures.cases)))
    c.loop-object.invariant.following
