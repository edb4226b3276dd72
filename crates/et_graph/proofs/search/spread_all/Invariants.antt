-- The times of the sources so far are carried.
use Rattle.std.proofs.Common.{◌≡◌, ◌+◌, ◌≤◌, [], vec_capacity}
use Rattle.et_graph.specs.Times.{IsReady, AreSeenAmong, unset_count}
use Rattle.et_graph.proofs.Rounds.{AreCarried}
use Rattle.et_graph.proofs.search.spread_all.Given as goal

abbrev pub invariant-loop-source : goal.invariant-loop-source
invariant-loop-source g l =
    let R = g.R.References in
    record {
      ready : IsReady l.times l.seen l.work;
      empty : l.work.items ≡ [];
      carried : AreCarried (R.pairs_in l.references) l.fn.times l.order l.source-index l.times l.seen;
      seen_since : AreSeenAmong (R.has_object l.references) l.fn.seen l.seen;
      room : vec_capacity l.fn.work ≤ vec_capacity l.work;
      counted : R.count_of l.count + unset_count l.seen ≤ R.count_of l.fn.count + unset_count l.fn.seen;
    }
