-- The roots so far are marked, and the times of those to come give the whole.
use Rattle.std.proofs.Common.{◌≡◌, ℕ, ◌+◌, ◌-◌, ◌≤◌, length, map, drop, get_or, Contains, vec_capacity}
use Rattle.et_graph.specs.Times.{set_each, IsReady, unset_count}
use Rattle.et_flush.specs.declared.times.TheConstants.{NOW}
use Rattle.et_flush.specs.Ranks.{rank_of}
use Rattle.et_flush.specs.Reaches.{AreMarked}
use Rattle.et_flush.proofs.reach.mark_roots.Given as goal

abbrev pub invariant-loop-root : goal.invariant-loop-root
invariant-loop-root l = record {
  ready : IsReady l.times l.seen l.waiting;
  times : set_each (map (rank_of l.ranks) (drop l.root-index l.roots)) NOW l.times ≡ set_each (map (rank_of l.ranks) l.roots) NOW l.fn.times;
  marked : AreMarked (map (rank_of l.ranks) l.roots) l.seen l.waiting.items;
  now : (rank : ℕ) → Contains l.waiting.items rank → get_or l.times (rank - 1) 0 ≡ NOW;
  counted : length l.waiting.items + unset_count l.seen ≡ unset_count l.fn.seen;
  room : vec_capacity l.fn.waiting ≤ vec_capacity l.waiting;
}
