-- The time is carried as far as the work shows, and each object that waits is yet to be visited.
use Rattle.std.proofs.Common.{ℕ, ◌+◌, ◌≤◌, length, Contains, vec_capacity}
use Rattle.et_graph.specs.Times.{IsReady, AreSeenAmong, unset_count}
use Rattle.et_graph.proofs.Rounds.{IsCarrying}
use Rattle.et_graph.proofs.search.spread.Given as goal

abbrev pub invariant-loop-object : goal.invariant-loop-object
invariant-loop-object g l =
    let R = g.R.References in
    record {
      ready : IsReady l.times l.seen l.work;
      carrying : IsCarrying (R.pairs_in l.references) l.fn.source l.time l.fn.times l.fn.seen l.times l.seen l.work.items;
      waits : (o : ℕ) → Contains l.work.items o → R.has_object l.references o;
      seen_since : AreSeenAmong (R.has_object l.references) l.fn.seen l.seen;
      room : vec_capacity l.fn.work ≤ vec_capacity l.work;
      counted : R.count_of l.count + unset_count l.seen + length l.work.items ≤ R.count_of l.fn.count + unset_count l.fn.seen;
    }

abbrev pub decreases-loop-object : goal.decreases-loop-object
decreases-loop-object g l = unset_count l.seen + unset_count l.seen + length l.work.items
