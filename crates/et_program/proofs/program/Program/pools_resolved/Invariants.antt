use Rattle.std.proofs.Common.{◌≡◌, length}
use Rattle.et_program.specs.Resolved.{AreResolved}
use Rattle.et_program.proofs.program.Program.pools_resolved.Given as goal

abbrev pub invariant-loop-class : goal.invariant-loop-class
invariant-loop-class l = record {
  size : length l.pools.items ≡ l.class;
  each : AreResolved l.self l.pools.items;
}
