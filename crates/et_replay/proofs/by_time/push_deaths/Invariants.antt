use Rattle.std.proofs.Common.{◌≡◌, ◌++◌, drop}
use Rattle.et_replay.specs.Parts.{deaths_from}
use Rattle.et_replay.proofs.by_time.push_deaths.Given as goal

abbrev pub invariant-loop-time : goal.invariant-loop-time
invariant-loop-time l = record {
  object_is : l.object ≡ l.time-index;
  told : l.items.items ++ deaths_from l.object (drop l.time-index l.died) ≡ l.fn.items.items ++ deaths_from 0 l.died;
}
