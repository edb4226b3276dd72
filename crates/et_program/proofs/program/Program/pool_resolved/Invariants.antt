use Rattle.std.proofs.Common.{◌≡◌, ℕ, length}
use Rattle.std.specs.List.{slice_index_or}
use Rattle.et_program.specs.declared.lookup.resolved.Resolved.TheVariants.{Nothing}
use Rattle.et_program.specs.Resolved.{IsResolved}
use Rattle.et_program.proofs.program.Program.pool_resolved.Given as goal

abbrev pub invariant-loop-index : goal.invariant-loop-index
invariant-loop-index l = record {
  size : length l.entries.items ≡ l.index;
  each : (i : ℕ) → IsResolved l.self l.class i (slice_index_or l.entries.items i Nothing);
}
