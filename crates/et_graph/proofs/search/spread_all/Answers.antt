use Rattle.std.proofs.Common.{ℕ, sym, subst, arith}
use Rattle.et_graph.specs.Order.{IsOneOf}
use Rattle.et_graph.proofs.Among.{seen_none, seen_on}
use Rattle.et_graph.proofs.Rounds.{none_carried, carried_more, carried_all}
use Rattle.et_graph.proofs.search.spread_all.Goals as goal

pub loop-source-init : goal.loop-source-init
loop-source-init g c = record {
  ready = c.requires.ready;
  empty = c.requires.empty;
  carried =
      none_carried (g.R.References.pairs_in c.args.references.now) c.args.times.now c.args.order.now c.args.seen.now
      (λ u x d. c.requires.unseen u (c.requires.pairs u x d).0) (λ u x d. c.requires.unseen x (c.requires.pairs u x d).1);
  seen_since = seen_none (g.R.References.has_object c.args.references.now) c.args.seen.now;
  room = omega arith;
  counted = omega arith;
}

pub spread-requires-clause-within : goal.spread-requires-clause-within
spread-requires-clause-within g c = λ o has. subst (λ (n : ℕ). IsOneOf n o) (sym c.loop-source.auto.times) (c.requires.within o has)

pub spread-requires-clause-source : goal.spread-requires-clause-source
spread-requires-clause-source g c = c.requires.order.each c.source-item.result (c.loop-source.source-index, c.loop-source-test.true, sym c.source-item.is)

pub loop-source-preserved : goal.loop-source-preserved
loop-source-preserved g c =
    let has = g.R.References.has_object c.args.references.now in
    record {
      ready = c.spread.ensures.ready;
      empty = c.spread.ensures.empty;
      carried =
          carried_more has (g.R.References.pairs_in c.args.references.now) c.args.times.now c.args.order.now c.loop-source.source-index c.source-item.result c.loop-source.times c.loop-source.seen
          (λ o there. (c.requires.within o there).0) (λ u x d. (c.requires.pairs u x d).1) c.requires.order c.loop-source-test.true c.source-item.is c.loop-source.invariant.carried c.spread.new.times c.spread.new.seen c.spread.ensures.spreads;
      seen_since = seen_on has c.args.seen.now c.loop-source.seen c.spread.new.seen c.loop-source.invariant.seen_since c.spread.ensures.seen;
      room = omega (arith, c.spread.ensures.grows, c.loop-source.invariant.room);
      counted = omega (arith, c.spread.ensures.counted, c.loop-source.invariant.counted);
    }

pub returns-clause-settled : goal.returns-clause-settled
returns-clause-settled g c =
    carried_all (g.R.References.has_object c.args.references.now) (g.R.References.pairs_in c.args.references.now) c.args.times.now c.args.order.now c.loop-source.source-index c.loop-source.times c.loop-source.seen
    (λ u x d. (c.requires.pairs u x d).0) c.requires.order c.loop-source-test.false c.loop-source.invariant.carried
