-- What the object leads to is still to come, was seen, or is left out.
use Rattle.std.proofs.Common.{ℕ, ◌≤◌, ◌⊎◌, length, map, Contains, vec_capacity}
use Rattle.et_graph.specs.Times.{IsSet, IsReady}
use Rattle.et_graph.proofs.Visiting.{IsVisiting}
use Rattle.et_heap.specs.Objects.{IsHeld}
use Rattle.et_heap.specs.Refs.{pairs_of}
use Rattle.et_flush.specs.Ranks.{rank_of, ranked_pairs}
use Rattle.et_flush.specs.Searches.{pairs_left}
use Rattle.et_flush.proofs.search.HeldReferencesReferencesSteps.visit.Given as goal

abbrev pub invariant-targets : goal.invariant-targets
invariant-targets g l = let pairs = ranked_pairs l.self.ranks.now (pairs_of l.self.heap.now) in record {
  ready : IsReady l.times l.seen l.work;
  visiting : IsVisiting (pairs_left l.self.left_out.now pairs) l.fn.object l.time l.fn.times l.fn.seen l.fn.work.items l.times l.seen l.work.items;
  held : (o : ℕ) → Contains l.targets o → IsHeld l.self.heap.now o;
  left : (k : ℕ) → Contains (map (rank_of l.self.ranks.now) l.targets) k → Contains pairs (l.fn.object, k);
  done : (k : ℕ) → Contains (pairs_left l.self.left_out.now pairs) (l.fn.object, k) → Contains (map (rank_of l.self.ranks.now) l.targets) k ⊎ IsSet l.seen k;
  room : vec_capacity l.fn.work ≤ vec_capacity l.work;
}

abbrev pub decreases-targets : goal.decreases-targets
decreases-targets g l = length l.targets
