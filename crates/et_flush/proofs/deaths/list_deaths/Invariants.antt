-- The deaths so far.
use Rattle.std.proofs.Common.{◌≤◌, length, vec_capacity}
use Rattle.et_graph.specs.Listing.{death_pairs}
use Rattle.et_flush.specs.declared.ranks.Ranks.{Ranks}
use Rattle.et_flush.specs.Ranks.{AreRanked, time_of}
use Rattle.et_flush.proofs.Dying.{AreListedTo}
use Rattle.et_flush.proofs.deaths.list_deaths.Given as goal

abbrev pub invariant-loop-i : goal.invariant-loop-i
invariant-loop-i l = record {
  few : length l.deaths.items ≤ l.i;
  listed : (ranks : Ranks) → AreRanked l.held ranks → AreListedTo l.held (time_of ranks l.times) l.i (death_pairs l.deaths.items);
  room : vec_capacity l.fn.deaths ≤ vec_capacity l.deaths;
}
