use Rattle.std.proofs.Common.{ℕ, [], take, reverse}
use Rattle.et_replay.specs.declared.model.Policy.{Policy}
use Rattle.et_replay.specs.Feeding.{HasItemRoom}
use Rattle.et_bench.proofs.totals.report_of.Given as goal

abbrev pub invariant-loop-item : goal.invariant-loop-item
invariant-loop-item g l =
    (policy : Policy) (objects : ℕ) → g.M.HeapModel.stands_for l.fn.model policy objects []
    → g.M.HeapModel.stands_for l.model policy objects (reverse (take l.item-index l.items)) × HasItemRoom policy (reverse (take l.item-index l.items))
