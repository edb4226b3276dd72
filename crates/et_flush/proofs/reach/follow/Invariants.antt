-- What waited is followed as far as what waits now, and each object that waits is yet to be visited.
use Rattle.std.proofs.Common.{ℕ, ◌+◌, ◌≤◌, length, Contains, vec_capacity}
use Rattle.et_graph.specs.Times.{IsReady, unset_count}
use Rattle.et_flush.proofs.Marking.{IsFollowing}
use Rattle.et_flush.proofs.reach.follow.Given as goal

abbrev pub invariant-loop-object : goal.invariant-loop-object
invariant-loop-object g l =
    let R = g.R.References in
    record {
      ready : IsReady l.times l.seen l.waiting;
      following : IsFollowing (R.pairs_in l.references) l.time l.fn.times l.fn.seen l.fn.waiting.items l.times l.seen l.waiting.items;
      waits : (o : ℕ) → Contains l.waiting.items o → R.has_object l.references o;
      room : vec_capacity l.fn.waiting ≤ vec_capacity l.waiting;
      counted : R.count_of l.count + unset_count l.seen + length l.waiting.items ≤ R.count_of l.fn.count + unset_count l.fn.seen + length l.fn.waiting.items;
    }

abbrev pub decreases-loop-object : goal.decreases-loop-object
decreases-loop-object g l = unset_count l.seen + unset_count l.seen + length l.waiting.items
