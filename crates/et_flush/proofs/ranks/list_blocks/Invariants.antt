-- The blocks of the objects so far have runs.
use Rattle.std.proofs.Common.{◌≤◌, vec_capacity}
use Rattle.et_flush.specs.Ranks.{AreRuns}
use Rattle.et_flush.proofs.Ranking.{AreBlocksTo}
use Rattle.et_flush.proofs.ranks.list_blocks.Given as goal

abbrev pub invariant-loop-object : goal.invariant-loop-object
invariant-loop-object l = record {
  runs : AreRuns l.runs l.blocks.items;
  blocks : AreBlocksTo l.held l.object-index l.blocks.items;
  room : vec_capacity l.fn.blocks ≤ vec_capacity l.blocks;
}
