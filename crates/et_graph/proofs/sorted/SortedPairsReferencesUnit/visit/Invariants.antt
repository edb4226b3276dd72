-- The targets so far were seen.
use Rattle.std.proofs.Common.{◌≤◌, vec_capacity}
use Rattle.et_graph.specs.Times.{IsReady}
use Rattle.et_graph.proofs.Visiting.{IsVisiting, AreSeen}
use Rattle.et_graph.proofs.sorted.SortedPairsReferencesUnit.visit.Given as goal

abbrev pub invariant-loop-pair : goal.invariant-loop-pair
invariant-loop-pair l = record {
  ready : IsReady l.times l.seen l.work;
  visiting : IsVisiting l.self.pairs.now l.fn.object l.time l.fn.times l.fn.seen l.fn.work.items l.times l.seen l.work.items;
  done : AreSeen l.pair-items l.pair-index l.seen;
  room : vec_capacity l.fn.work ≤ vec_capacity l.work;
}
