use Rattle.std.proofs.Common.{◌≡◌, length, take}
use Rattle.et_program.specs.Shapes.{AreShaped}
use Rattle.et_program.proofs.shapes.shapes_of.Given as goal

abbrev pub invariant-loop-pool : goal.invariant-loop-pool
invariant-loop-pool l = record {
  size : length l.shapes.items ≡ l.pool-index;
  each : AreShaped (take l.pool-index l.pools) l.shapes.items;
}
