use Rattle.std.proofs.Common.{◌≡◌, ◌-◌, length}
use Rattle.et_replay.specs.Lives.{CountsTo}
use Rattle.et_replay.proofs.sizes.Sizes.below.Given as goal

abbrev pub invariant-loop-self : goal.invariant-loop-self
invariant-loop-self l = record {
  same : l.self.sizes ≡ l.fn.self.sizes;
  counts : CountsTo l.self.sizes.items l.self.at l.self.sum l.limit;
}

abbrev pub decreases-loop-self : goal.decreases-loop-self
decreases-loop-self l = length l.self.sizes.items - l.self.at
