-- The objects so far have their ranks.
use Rattle.std.proofs.Common.{◌≡◌, ℕ, ◌+◌, ◌<◌, get_or}
use Rattle.et_flush.specs.Ranks.{rank_entry}
use Rattle.et_flush.proofs.ranks.write_ranks.Given as goal

abbrev pub invariant-loop-object : goal.invariant-loop-object
invariant-loop-object l = record {
  rank : l.rank ≡ l.object-index;
  ranks : (k : ℕ) → k < l.object-index → get_or l.ranks (rank_entry l.runs (get_or l.held k 0)) 0 ≡ k + 1;
}
