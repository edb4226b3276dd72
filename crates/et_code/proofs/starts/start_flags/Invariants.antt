use Rattle.std.proofs.Common.{length, ◌-◌, ◌≡◌}
use Rattle.et_code.proofs.Starting.{Flagged}
use Rattle.et_code.proofs.starts.start_flags.Given as goal

abbrev pub invariant-loop-pc : goal.invariant-loop-pc
invariant-loop-pc l = record { size : length l.flags.items ≡ length l.code; flagged : Flagged l.code l.flags.items l.pc }

abbrev pub decreases-loop-pc : goal.decreases-loop-pc
decreases-loop-pc l = length l.code - l.pc
