-- The starts so far are flagged, and the targets of the instructions there.
use Rattle.std.proofs.Common.{◌≡◌, ℕ, ◌-◌, length, true, map}
use Rattle.std.specs.Prelude.{Ok}
use Rattle.et_code.specs.declared.instr.Instr.{Instr}
use Rattle.et_code.specs.Decoding.{instruction_at}
use Rattle.et_code.specs.Rules.{flag, offsets}
use Rattle.et_code.proofs.Starting.{Flagged}
use Rattle.et_event.specs.Sites.{target}
use Rattle.et_verify.specs.Targets.{KeepsFlags, AreFlagged}
use Rattle.et_verify.proofs.targets.mark_code.Given as goal

abbrev pub invariant-loop-pc : goal.invariant-loop-pc
invariant-loop-pc l = record {
  size : length l.starts.items ≡ length l.code;
  flagged : Flagged l.code l.starts.items l.pc;
  kept : KeepsFlags l.fn.flags l.flags;
  marked : (k : ℕ) (i : Instr) (next : ℕ) → flag l.starts.items k ≡ true → instruction_at l.code k ≡ Ok (i, next) → AreFlagged l.flags (map (target k) (offsets l.code i));
}

abbrev pub decreases-loop-pc : goal.decreases-loop-pc
decreases-loop-pc l = length l.code - l.pc
