-- The places so far are flagged.
use Rattle.std.proofs.Common.{take}
use Rattle.et_verify.specs.Targets.{KeepsFlags, AreFlagged}
use Rattle.et_verify.proofs.targets.mark_all.Given as goal

abbrev pub invariant-loop-place : goal.invariant-loop-place
invariant-loop-place l = record {
  kept : KeepsFlags l.fn.flags l.flags;
  marked : AreFlagged l.flags (take l.place-index l.places);
}
